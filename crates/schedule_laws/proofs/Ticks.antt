-- Executed ticks and phases from tick to tick.
use Rattle.std.proofs.Common.{◌≡◌, ℕ, zero, suc, ◌+◌, ◌<◌, ◌≤◌, true, false, List, length, refl, sym, ap, ◌∙◌, arith, inl, inr}
use Rattle.std.specs.List.{list_all}
use Rattle.std.proofs.lemmas.Bool.{cases_lt, cases_Bool, and_parts, eq-eqb, eqb-true}
use Rattle.std.proofs.lemmas.List.{get_or_past}
use Rattle.number_laws.specs.Sums.{flag}
use Rattle.number_laws.proofs.CountLaws.{count_below-longer, count_below-at_most, flag-of_true, flag-of_false}
use Rattle.schedule_model.specs.JobDef.{SegmentDef, no_job, job_of, total_ticks}
use Rattle.schedule_model.specs.RowDef.{Trace, runs_in}
use Rattle.schedule_model.specs.LawfulJobs.{is_segment, is_script}
use Rattle.schedule_model.specs.Phase.{Phase, is_local, is_finished, is_asking, is_same_request, phase_from, executed, phase_of}
use Rattle.schedule_model.specs.Phase.Phase.{Local, Asking, Finished}
use Rattle.schedule_laws.specs.LocalRuns.{LocalRun}
use Rattle.schedule_laws.proofs.Phases.{phase_of_none, finished_from, finished_total, asking_between, asking_forward}
use Rattle.schedule_laws.proofs.Phases.{LocalTick, local_before}

-- Executed ticks begin with none, rise by one where the job runs, and else stay.
pub executed_none : (w : Trace) (j : ℕ) → executed w 0 j ≡ 0
unfolding executed
executed_none w j = refl

-- From one tick to the next.
pub executed_next : (w : Trace) (t j : ℕ) → executed w (suc t) j ≡ executed w t j + flag (runs_in (w.row t) j)
unfolding executed
executed_next w t j = refl

-- They rise by one where the job runs.
pub executed_runs : (w : Trace) (t j : ℕ) → runs_in (w.row t) j ≡ true → executed w (suc t) j ≡ suc (executed w t j)
executed_runs w t j h = let one : flag (runs_in (w.row t) j) ≡ 1 = flag-of_true _ h in omega (arith, executed_next w t j)

-- They stay where it doesn't.
pub executed_waits : (w : Trace) (t j : ℕ) → runs_in (w.row t) j ≡ false → executed w (suc t) j ≡ executed w t j
executed_waits w t j h = let none : flag (runs_in (w.row t) j) ≡ 0 = flag-of_false _ h in omega (arith, executed_next w t j)

-- They never fall.
pub executed_up : (w : Trace) (u t j : ℕ) → u ≤ t → executed w u j ≤ executed w t j
unfolding executed
executed_up w u t j h = count_below-longer u t (λ k. runs_in (w.row k) j) h

-- They are at most the ticks so far.
pub executed_at_most : (w : Trace) (t j : ℕ) → executed w t j ≤ t
unfolding executed
executed_at_most w t j = count_below-at_most t (λ k. runs_in (w.row k) j)

-- A tick from u on and before v, at which the job has executed d ticks and runs.
pub record RunTick (w : Trace) (u v d j : ℕ) : Type 0 where
  pub tick : ℕ
  pub from : u ≤ tick
  pub before : tick < v
  pub done : executed w tick j ≡ d
  pub runs : runs_in (w.row tick) j ≡ true

run_tick_here : (w : Trace) (u t d j : ℕ) → executed w u j ≤ d → d < executed w (suc t) j → executed w t j ≤ d → RunTick w u (suc t) d j
run_tick_here w u t d j a b c = elim (cases_Bool (runs_in (w.row t) j)) [
  | inl runs ↦
      let one : executed w (suc t) j ≡ suc (executed w t j) = executed_runs w t j runs in
      elim (cases_lt t u) [
        | inl late ↦ let more : executed w (suc t) j ≤ executed w u j = executed_up w (suc t) u j (omega arith) in absurd (omega arith)
        | inr early ↦ record { tick = t; from = early; before = omega arith; done = omega arith; runs = runs }
      ]
  | inr waits ↦ let none : executed w (suc t) j ≡ executed w t j = executed_waits w t j waits in absurd (omega arith)
]

-- Each number of executed ticks that is passed between two ticks is that of one tick between at which the job runs.
pub run_tick : (w : Trace) (u v d j : ℕ) → executed w u j ≤ d → d < executed w v j → RunTick w u v d j
run_tick w u zero d j a b = let none : executed w 0 j ≡ 0 = executed_none w j in absurd (omega arith)
run_tick w u (suc t) d j a b = elim (cases_lt d (executed w t j)) [
  | inl before ↦
      let r : RunTick w u t d j = run_tick w u t d j a before in
      record { tick = r.tick; from = r.from; before = omega (arith, r.before); done = r.done; runs = r.runs }
  | inr here ↦ run_tick_here w u t d j a b here
]

-- The phase is a function of the executed ticks.
pub phase_at : (w : Trace) (t j : ℕ) → phase_of w t j ≡ phase_from 0 (job_of w.jobs j).script (executed w t j)
unfolding phase_of
phase_at w t j = refl

-- At two ticks with as many executed ticks it is the same.
pub phase_same : (w : Trace) (u t j : ℕ) → executed w u j ≡ executed w t j → phase_of w u j ≡ phase_of w t j
unfolding phase_of
phase_same w u t j h = ap (phase_from 0 (job_of w.jobs j).script) h

-- At a tick at which the job doesn't run its phase stays.
pub phase_waits : (w : Trace) (t j : ℕ) → runs_in (w.row t) j ≡ false → phase_of w (suc t) j ≡ phase_of w t j
phase_waits w t j h = phase_same w (suc t) t j (executed_waits w t j h)

-- A phase that passes for Finished is it.
pub finished_true : (p : Phase) → is_finished p ≡ true → p ≡ Finished
finished_true Finished h = refl
finished_true Local h = absurd (cc)
finished_true (Asking n q) h = absurd (cc)

-- A phase that passes for Local is Local.
pub local_true : (p : Phase) → is_local p ≡ true → p ≡ Local
local_true Local h = refl
local_true Finished h = absurd (cc)
local_true (Asking n q) h = absurd (cc)

-- A phase that is a request of q, with the request's number.
pub asking_true : (q : ℕ) (p : Phase) → is_asking q p ≡ true → (m : ℕ) × (p ≡ Asking m q)
asking_true q (Asking n r) h = let e : r ≡ q = eqb-true r q h in (n, ap (Asking n) e)
asking_true q Local h = absurd (cc)
asking_true q Finished h = absurd (cc)

-- A request of q passes for one.
pub asking_is : (m q : ℕ) (p : Phase) → p ≡ Asking m q → is_asking q p ≡ true
asking_is m q p e = rw e (eq-eqb q q refl)

-- A phase of the same request as a request's is a request of its number.
pub same_true : (p : Phase) (m q : ℕ) → is_same_request p (Asking m q) ≡ true → (r : ℕ) × (p ≡ Asking m r)
same_true (Asking n r) m q h = let e : n ≡ m = eqb-true n m h in (r, ap (λ k. Asking k r) e)
same_true Local m q h = absurd (cc)
same_true Finished m q h = absurd (cc)

-- Two phases of one number are of the same request.
pub same_from : (p s : Phase) (m q r : ℕ) → p ≡ Asking m q → s ≡ Asking m r → is_same_request p s ≡ true
same_from p s m q r a b = rw (a, b) (eq-eqb m m refl)

-- A phase of the same request as another one: both are requests of one number.
pub record SameRequest (p s : Phase) : Type 0 where
  pub number : ℕ
  pub first : ℕ
  pub second : ℕ
  pub one : p ≡ Asking number first
  pub two : s ≡ Asking number second

-- Phases of the same request are both requests of one number.
pub same_parts : (p s : Phase) → is_same_request p s ≡ true → SameRequest p s
same_parts (Asking n q) (Asking m r) h =
    record { number = n; first = q; second = r; one = refl; two = ap (λ k. Asking k r) (sym (eqb-true n m h)) }
same_parts (Asking n q) Local h = absurd (cc)
same_parts (Asking n q) Finished h = absurd (cc)
same_parts Local s h = absurd (cc)
same_parts Finished s h = absurd (cc)

-- The numbers of requests rise from tick to tick.
pub requests_rise : (w : Trace) (u t j m n q r : ℕ) → phase_of w u j ≡ Asking m q → phase_of w t j ≡ Asking n r → u ≤ t → m ≤ n
unfolding phase_of
requests_rise w u t j m n q r h g l =
    asking_forward 0 (job_of w.jobs j).script (executed w u j) (executed w t j) m n q r (executed_up w u t j l) h g

-- A finished job stays finished.
pub finished_stays : (w : Trace) (u t j : ℕ) → u ≤ t → phase_of w u j ≡ Finished → phase_of w t j ≡ Finished
unfolding phase_of
finished_stays w u t j l h =
    let total : total_ticks (job_of w.jobs j).script ≤ executed w u j = finished_total 0 (job_of w.jobs j).script (executed w u j) h in
    let up : executed w u j ≤ executed w t j = executed_up w u t j l in
    finished_from 0 (job_of w.jobs j).script (executed w t j) (omega arith)

-- A job that isn't finished wasn't before.
pub unfinished_before : (w : Trace) (u t j : ℕ) → u ≤ t → is_finished (phase_of w t j) ≡ false → is_finished (phase_of w u j) ≡ false
unfinished_before w u t j l h = elim (cases_Bool (is_finished (phase_of w u j))) [
  | inl finished ↦
      let e : phase_of w t j ≡ Finished = finished_stays w u t j l (finished_true _ finished) in
      let x : is_finished (phase_of w t j) ≡ true = rw e refl in
      absurd (cc)
  | inr fails ↦ fails
]

-- A job is finished where it has executed its script's ticks.
pub finished_at : (w : Trace) (t j : ℕ) → total_ticks (job_of w.jobs j).script ≤ executed w t j → phase_of w t j ≡ Finished
unfolding phase_of
finished_at w t j h = finished_from 0 (job_of w.jobs j).script (executed w t j) h

-- A finished job has executed its script's ticks.
pub finished_executed : (w : Trace) (t j : ℕ) → phase_of w t j ≡ Finished → total_ticks (job_of w.jobs j).script ≤ executed w t j
unfolding phase_of
finished_executed w t j h = finished_total 0 (job_of w.jobs j).script (executed w t j) h

-- A job past the end of the list is finished.
pub finished_past : (w : Trace) (t j : ℕ) → length w.jobs ≤ j → phase_of w t j ≡ Finished
unfolding phase_of
finished_past w t j h = let e : job_of w.jobs j ≡ no_job = get_or_past w.jobs j no_job h in rw e (phase_of_none 0 (executed w t j))

-- A job that isn't finished is in the list.
pub unfinished_listed : (w : Trace) (t j : ℕ) → is_finished (phase_of w t j) ≡ false → j < length w.jobs
unfinished_listed w t j h = elim (cases_lt j (length w.jobs)) [
  | inl l ↦ l
  | inr past ↦ let e : phase_of w t j ≡ Finished = finished_past w t j past in
      let x : is_finished (phase_of w t j) ≡ true = rw e refl in absurd (cc)
]

-- A request stays open between two ticks of it.
pub open_between : (w : Trace) (u t v j m q r : ℕ) → phase_of w u j ≡ Asking m q → phase_of w v j ≡ Asking m r → u ≤ t
    → t ≤ v → phase_of w t j ≡ Asking m q
unfolding phase_of
open_between w u t v j m q r h g a b =
    asking_between 0 (job_of w.jobs j).script (executed w u j) (executed w t j) (executed w v j) m q r h g
    (executed_up w u t j a) (executed_up w t v j b)

-- One request is of one resource.
pub one_resource : (w : Trace) (u v j m q r : ℕ) → phase_of w u j ≡ Asking m q → phase_of w v j ≡ Asking m r → q ≡ r
one_resource w u v j m q r h g = elim (cases_lt v u) [
  | inl before ↦ let e : phase_of w u j ≡ Asking m r = open_between w v u u j m r q g h (omega arith) (omega arith) in
      let x : Asking m q ≡ Asking m r = sym h ∙ e in cc
  | inr after ↦ let e : phase_of w v j ≡ Asking m q = open_between w u v v j m q r h g after (omega arith) in
      let x : Asking m q ≡ Asking m r = sym e ∙ g in cc
]

-- The segments of a script.
pub script_segments : (script : List SegmentDef) → is_script script ≡ true → list_all is_segment script ≡ true
script_segments script h = (and_parts _ _ (and_parts _ _ h).1).0

-- A request that is open at a later tick and not at an earlier one has an executed Local tick between.
pub local_run_before : (w : Trace) (u v j m q : ℕ) → is_script (job_of w.jobs j).script ≡ true → u ≤ v → phase_of w v j ≡ Asking m q
    → is_same_request (phase_of w u j) (Asking m q) ≡ false → LocalRun w u v j
unfolding phase_of
local_run_before w u v j m q lawful l h g =
    let script : List SegmentDef = (job_of w.jobs j).script in
    let a : LocalTick 0 script (executed w u j) (executed w v j) =
    local_before 0 script (executed w u j) (executed w v j) m q (script_segments script lawful) (executed_up w u v j l) h g in
    let r : RunTick w u v a.tick j = run_tick w u v a.tick j a.from a.before in
    record { tick = r.tick; from = r.from; before = r.before; local = rw r.done a.local; runs = r.runs }
