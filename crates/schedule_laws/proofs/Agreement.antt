-- What is said of a tick depends on the rows before it, and where it speaks of the tick's own row on that one, alone.
use Rattle.std.proofs.Common.{◌≡◌, ℕ, zero, suc, ◌+◌, ◌-◌, ◌<◌, ◌≤◌, ◌==◌, ◌&&◌, ◌||◌, not, List, [], ◌∷◌, ◌++◌, length}
use Rattle.std.proofs.Common.{refl, sym, ap, ◌∙◌, arith, inl, inr, leb}
use Rattle.std.proofs.Math.ListN.{get_or-append}
use Rattle.std.proofs.Math.Seq.{get_or-append_seam}
use Rattle.std.proofs.lemmas.List.Sums.{sum_by-cons}
use Rattle.std.proofs.lemmas.Bool.{cases_lt, lt-ltb, le-ltb}
use Rattle.number_laws.specs.Tests.{found_below}
use Rattle.number_laws.proofs.CountLaws.{count_below-agree}
use Rattle.number_laws.proofs.TestLaws.{all_below-agree, first_below-agree, found_below-agree}
use Rattle.sporadic_model.specs.SetDef.{task_at}
use Rattle.schedule_model.specs.JobDef.{JobDef, JobsDef, job_of}
use Rattle.schedule_model.specs.RowDef.{RowDef, RunDef, Trace, idle_row, row_in, ticks_of, trace_of, trace_in}
use Rattle.schedule_model.specs.RowDef.{running_on, holder_in, held_before, runs_in}
use Rattle.schedule_model.specs.Phase.{is_finished, is_same_request, phase_from, executed, phase_of}
use Rattle.schedule_model.specs.Activity.{task_of, processor_of, is_pending, is_next, is_active, is_active_job_of}
use Rattle.schedule_model.specs.Activity.{active_job_of, is_requester, issue_tick_of, holds_by, is_active_local}
use Rattle.schedule_model.specs.Activity.{is_ready_holder, is_ready}
use Rattle.schedule_laws.specs.Agreement.{AgreeBefore}

-- Schedules that agree before a tick agree before each earlier one.
pub agree_sooner : (v w : Trace) (n m : ℕ) → m ≤ n → AgreeBefore v w n → AgreeBefore v w m
agree_sooner v w n m l a = record { set = a.set; jobs = a.jobs; rows = λ t b. a.rows t (omega arith) }

-- It doesn't matter which schedule is named first.
pub agree_back : (v w : Trace) (n : ℕ) → AgreeBefore v w n → AgreeBefore w v n
agree_back v w n a = record { set = sym a.set; jobs = sym a.jobs; rows = λ t b. sym (a.rows t b) }

-- The jobs, their tasks and processors agree at once.
pub job_agree : (v w : Trace) (n j : ℕ) → AgreeBefore v w n → job_of v.jobs j ≡ job_of w.jobs j
job_agree v w n j a = ap (λ jobs. job_of jobs j) a.jobs

pub listed_agree : (v w : Trace) (n : ℕ) → AgreeBefore v w n → length v.jobs ≡ length w.jobs
listed_agree v w n a = ap (λ (jobs : List JobDef). length jobs) a.jobs

-- A job that one of them lists the other does too.
pub listed_on : (v w : Trace) (n i : ℕ) → AgreeBefore v w n → i < length v.jobs → i < length w.jobs
listed_on v w n i a l = omega (arith, l, listed_agree v w n a)

pub listed_back : (v w : Trace) (n i : ℕ) → AgreeBefore v w n → i < length w.jobs → i < length v.jobs
listed_back v w n i a l = omega (arith, l, listed_agree v w n a)

pub task_agree : (v w : Trace) (n j : ℕ) → AgreeBefore v w n → task_of v j ≡ task_of w j
task_agree v w n j a = ap (λ jobs. (job_of jobs j).task) a.jobs

pub processor_agree : (v w : Trace) (n j : ℕ) → AgreeBefore v w n → processor_of v j ≡ processor_of w j
processor_agree v w n j a = ap (λ set. (task_at set (task_of v j)).processor) a.set
    ∙ ap (λ x. (task_at w.set x).processor) (task_agree v w n j a)

-- At a tick up to n: what speaks of the rows before the tick alone.
pub executed_agree : (v w : Trace) (n t j : ℕ) → AgreeBefore v w n → t ≤ n → executed v t j ≡ executed w t j
unfolding executed
executed_agree v w n t j a l = count_below-agree t (λ u. runs_in (v.row u) j) (λ u. runs_in (w.row u) j)
    (λ u b. ap (λ row. runs_in row j) (a.rows u (omega arith)))

pub phase_agree : (v w : Trace) (n t j : ℕ) → AgreeBefore v w n → t ≤ n → phase_of v t j ≡ phase_of w t j
unfolding phase_of
phase_agree v w n t j a l =
    ap (λ jobs. phase_from 0 (job_of jobs j).script (executed v t j)) a.jobs
    ∙ ap (phase_from 0 (job_of w.jobs j).script) (executed_agree v w n t j a l)

pub pending_agree : (v w : Trace) (n t j : ℕ) → AgreeBefore v w n → t ≤ n → is_pending v t j ≡ is_pending w t j
unfolding is_pending
pending_agree v w n t j a l =
    ap (λ jobs. leb (job_of jobs j).release t && not (is_finished (phase_of v t j))) a.jobs
    ∙ ap (λ p. leb (job_of w.jobs j).release t && not (is_finished p)) (phase_agree v w n t j a l)

pub next_agree : (v w : Trace) (n t j : ℕ) → AgreeBefore v w n → t ≤ n → is_next v t j ≡ is_next w t j
unfolding is_next
next_agree v w n t j a l = all_below-agree j (λ e. not (task_of v e == task_of v j) || is_finished (phase_of v t e))
    (λ e. not (task_of w e == task_of w j) || is_finished (phase_of w t e))
    (λ e b. ap (λ (jobs : List JobDef). not ((job_of jobs e).task == (job_of jobs j).task) || is_finished (phase_of v t e)) a.jobs
    ∙ ap (λ p. not (task_of w e == task_of w j) || is_finished p) (phase_agree v w n t e a l))

pub active_agree : (v w : Trace) (n t j : ℕ) → AgreeBefore v w n → t ≤ n → is_active v t j ≡ is_active w t j
unfolding is_active
active_agree v w n t j a l = rw (pending_agree v w n t j a l, next_agree v w n t j a l) refl

pub active_job_agree : (v w : Trace) (n t x : ℕ) → AgreeBefore v w n → t ≤ n → active_job_of v t x ≡ active_job_of w t x
unfolding active_job_of is_active_job_of
active_job_agree v w n t x a l =
    ap (λ m. found_below m (λ j. is_active v t j && (task_of v j == x))) (listed_agree v w n a)
    ∙ found_below-agree (length w.jobs) (λ j. is_active v t j && (task_of v j == x)) (λ j. is_active w t j && (task_of w j == x))
    (λ j b. rw (active_agree v w n t j a l, task_agree v w n j a) refl)

pub requester_agree : (v w : Trace) (n t q j : ℕ) → AgreeBefore v w n → t ≤ n → is_requester v t q j ≡ is_requester w t q j
unfolding is_requester
requester_agree v w n t q j a l = rw (active_agree v w n t j a l, phase_agree v w n t j a l) refl

pub active_local_agree : (v w : Trace) (n t j : ℕ) → AgreeBefore v w n → t ≤ n → is_active_local v t j ≡ is_active_local w t j
unfolding is_active_local
active_local_agree v w n t j a l = rw (active_agree v w n t j a l, phase_agree v w n t j a l) refl

pub issue_agree : (v w : Trace) (n t j : ℕ) → AgreeBefore v w n → t ≤ n → issue_tick_of v t j ≡ issue_tick_of w t j
unfolding issue_tick_of
issue_agree v w n t j a l = first_below-agree t (λ u. is_same_request (phase_of v u j) (phase_of v t j))
    (λ u. is_same_request (phase_of w u j) (phase_of w t j))
    (λ u b. ap (λ p. is_same_request p (phase_of v t j)) (phase_agree v w n u j a (omega arith))
    ∙ ap (is_same_request (phase_of w u j)) (phase_agree v w n t j a l))

pub held_before_agree : (v w : Trace) (n t q : ℕ) → AgreeBefore v w n → t ≤ n → held_before v t q ≡ held_before w t q
held_before_agree v w n zero q a l = refl
held_before_agree v w n (suc u) q a l = ap (λ row. holder_in row q) (a.rows u (omega arith))

-- At a tick before n: what speaks of the tick's own row too.
pub running_agree : (v w : Trace) (n t k : ℕ) → AgreeBefore v w n → t < n → running_on (v.row t) k ≡ running_on (w.row t) k
running_agree v w n t k a l = ap (λ row. running_on row k) (a.rows t l)

pub holder_agree : (v w : Trace) (n t q : ℕ) → AgreeBefore v w n → t < n → holder_in (v.row t) q ≡ holder_in (w.row t) q
holder_agree v w n t q a l = ap (λ row. holder_in row q) (a.rows t l)

pub ready_holder_agree : (v w : Trace) (n t j : ℕ) → AgreeBefore v w n → t < n → is_ready_holder v t j ≡ is_ready_holder w t j
unfolding is_ready_holder
ready_holder_agree v w n t j a l =
    let early : t ≤ n = omega arith in
    ap (λ b. b && holds_by (holder_in (v.row t)) j (phase_of v t j)) (active_agree v w n t j a early)
    ∙ ap (λ p. is_active w t j && holds_by (holder_in (v.row t)) j p) (phase_agree v w n t j a early)
    ∙ ap (λ row. is_active w t j && holds_by (holder_in row) j (phase_of w t j)) (a.rows t l)

pub ready_agree : (v w : Trace) (n t j : ℕ) → AgreeBefore v w n → t < n → is_ready v t j ≡ is_ready w t j
unfolding is_ready
ready_agree v w n t j a l = rw (active_local_agree v w n t j a (omega arith), ready_holder_agree v w n t j a l) refl

-- A list of rows agrees with each that it begins, before its end.
pub rows_agree : (jobs : JobsDef) (rows more : List RowDef) → AgreeBefore (trace_of jobs (rows ++ more)) (trace_of jobs rows) (length rows)
rows_agree jobs rows more = record { set = refl; jobs = refl; rows = λ t l. get_or-append rows more idle_row t l }

-- The row that was added comes after the rows before it.
pub row_added : (jobs : JobsDef) (rows more : List RowDef) (row : RowDef) → (trace_of jobs (rows ++ row ∷ more)).row (length rows) ≡ row
row_added jobs rows more row = get_or-append_seam rows row more idle_row

-- The same for runs of rows: the run that was added is at each of its ticks.
row_in_begun : (runs more : List RunDef) (t : ℕ) → t < ticks_of runs → row_in (runs ++ more) t ≡ row_in runs t
row_in_begun [] more t l = absurd (omega arith)
row_in_begun (run ∷ runs) more t l =
    let total : ticks_of (run ∷ runs) ≡ run.ticks + ticks_of runs = sum_by-cons (λ r. r.ticks) run runs in
    elim (cases_lt t run.ticks) [
      | inl here ↦ rw (lt-ltb t run.ticks here) refl
      | inr past ↦ rw (le-ltb t run.ticks past) (row_in_begun runs more (t - run.ticks) (omega arith))
    ]

row_in_added : (runs : List RunDef) (run : RunDef) (more : List RunDef) (t : ℕ) → ticks_of runs ≤ t
    → t < ticks_of runs + run.ticks → row_in (runs ++ run ∷ more) t ≡ run.row
row_in_added [] run more t h l = let here : t < run.ticks = omega arith in rw (lt-ltb t run.ticks here) refl
row_in_added (r ∷ runs) run more t h l =
    let total : ticks_of (r ∷ runs) ≡ r.ticks + ticks_of runs = sum_by-cons (λ s. s.ticks) r runs in
    let past : r.ticks ≤ t = omega arith in
    rw (le-ltb t r.ticks past) (row_in_added runs run more (t - r.ticks) (omega arith) (omega arith))

-- A list of runs agrees with each that it begins, before its end.
pub runs_agree : (jobs : JobsDef) (runs more : List RunDef)
    → AgreeBefore (trace_in jobs (runs ++ more)) (trace_in jobs runs) (ticks_of runs)
runs_agree jobs runs more = record { set = refl; jobs = refl; rows = λ t l. row_in_begun runs more t l }

-- The run that was added is at each of its ticks.
pub run_added : (jobs : JobsDef) (runs : List RunDef) (run : RunDef) (more : List RunDef) (t : ℕ) → ticks_of runs ≤ t
    → t < ticks_of runs + run.ticks
    → (trace_in jobs (runs ++ run ∷ more)).row t ≡ run.row
run_added jobs runs run more t h l = row_in_added runs run more t h l
