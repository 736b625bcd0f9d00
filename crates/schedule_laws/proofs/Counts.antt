-- Executed ticks in a kind of phase, counted along the script: all of a script's ticks of that kind once the job is
-- finished, and no more before.
use Rattle.std.proofs.Common.{add-mul, ◌≡◌, ℕ, zero, suc, ◌+◌, ◌-◌, ◌*◌, ◌<◌, ◌≤◌, ◌==◌, Bool, true, false, List, []}
use Rattle.std.proofs.Common.{◌∷◌, refl, ap, ◌∙◌, arith, inl, inr, Option, Some, None, nat_le}
use Rattle.std.specs.Option.{option_map_or}
use Rattle.std.specs.List.{list_all}
use Rattle.std.proofs.lemmas.Bool.{cases_Bool, cases_lt, and_parts, leb-true, eqb-true, ne_eqb}
use Rattle.std.proofs.lemmas.List.Sums.{sum_by-cons}
use Rattle.number_laws.specs.Sums.{flag, only_if}
use Rattle.number_laws.specs.Tests.{count_below}
use Rattle.number_laws.proofs.CountLaws.{count_below-split, count_below-longer, count_below-none, count_below-agree, count_below-same}
use Rattle.number_laws.proofs.ListCounts.{count_by-first}
use Rattle.sporadic_model.specs.SetDef.{SetDef}
use Rattle.sporadic_model.specs.Users.{length_of}
use Rattle.schedule_model.specs.JobDef.{SegmentDef, job_of, request_ticks, segment_ticks, asks_for, total_ticks}
use Rattle.schedule_model.specs.JobDef.{local_ticks, number_of_requests}
use Rattle.schedule_model.specs.LawfulJobs.{is_length_kept, IsLawfulJob}
use Rattle.schedule_model.specs.RowDef.{Trace, running_on, runs_in}
use Rattle.schedule_model.specs.Phase.{Phase, is_local, is_finished, is_asking, asking, phase_from, executed, phase_of}
use Rattle.schedule_model.specs.Phase.Phase.{Local, Finished}
use Rattle.schedule_laws.specs.Agreement.{RunsActiveBefore}
use Rattle.schedule_laws.specs.Counting.{ticks_where, executed_in, is_request}
use Rattle.schedule_laws.proofs.Phases.{phase_local, phase_request, phase_later, finished_from}
use Rattle.schedule_laws.proofs.Ticks.{executed_none, executed_runs, executed_waits, finished_at, finished_executed}
use Rattle.schedule_laws.proofs.ActiveJobs.{Active, active_is}
use Rattle.schedule_laws.proofs.Rows.{runs_where}

-- Ticks at which the job ran in a kind of phase are numbers of executed ticks with that phase.
pub executed_where : (p : Phase → Bool) (w : Trace) (t j : ℕ)
    → executed_in p w t j ≡ count_below (executed w t j) (λ d. p (phase_from 0 (job_of w.jobs j).script d))
unfolding executed_in phase_of
executed_where p w zero j = rw (executed_none w j) refl
executed_where p w (suc t) j = elim (cases_Bool (runs_in (w.row t) j)) [
  | inl runs ↦ simp (executed_runs w t j runs, runs, executed_where p w t j) refl
  | inr waits ↦ simp (executed_waits w t j waits, waits, executed_where p w t j) (omega arith)
]

-- A whole script has as many ticks of a kind as its segments.
first_segment : (p : Phase → Bool) (n : ℕ) (s : SegmentDef) (script : List SegmentDef)
    → count_below (segment_ticks s) (λ d. p (phase_from n (s ∷ script) d))
    ≡ only_if (p Local) s.local + only_if (p (asking n s.request)) (request_ticks s)
first_segment p n s script =
    let split : count_below (s.local + request_ticks s) (λ d. p (phase_from n (s ∷ script) d))
    ≡ count_below s.local (λ d. p (phase_from n (s ∷ script) d))
    + count_below (request_ticks s) (λ k. p (phase_from n (s ∷ script) (s.local + k))) =
    count_below-split s.local (request_ticks s) (λ d. p (phase_from n (s ∷ script) d)) in
    let local : count_below s.local (λ d. p (phase_from n (s ∷ script) d)) ≡ only_if (p Local) s.local =
    count_below-same s.local (λ d. p (phase_from n (s ∷ script) d)) (p Local) (λ k l. ap p (phase_local n s script k l)) in
    let request : count_below (request_ticks s) (λ k. p (phase_from n (s ∷ script) (s.local + k)))
    ≡ only_if (p (asking n s.request)) (request_ticks s) =
    count_below-same (request_ticks s) (λ k. p (phase_from n (s ∷ script) (s.local + k))) (p (asking n s.request))
    (λ k l. ap p (phase_request n s script (s.local + k) (omega arith) (omega arith))) in
    omega arith

pub script_whole : (p : Phase → Bool) (n : ℕ) (script : List SegmentDef)
    → count_below (total_ticks script) (λ d. p (phase_from n script d)) ≡ ticks_where p n script
script_whole p n [] = refl
script_whole p n (s ∷ script) =
    let total : total_ticks (s ∷ script) ≡ segment_ticks s + total_ticks script = sum_by-cons segment_ticks s script in
    let split : count_below (segment_ticks s + total_ticks script) (λ d. p (phase_from n (s ∷ script) d))
    ≡ count_below (segment_ticks s) (λ d. p (phase_from n (s ∷ script) d))
    + count_below (total_ticks script) (λ k. p (phase_from n (s ∷ script) (segment_ticks s + k))) =
    count_below-split (segment_ticks s) (total_ticks script) (λ d. p (phase_from n (s ∷ script) d)) in
    let rest : count_below (total_ticks script) (λ k. p (phase_from n (s ∷ script) (segment_ticks s + k)))
    ≡ count_below (total_ticks script) (λ k. p (phase_from (suc n) script k)) =
    count_below-agree (total_ticks script) (λ k. p (phase_from n (s ∷ script) (segment_ticks s + k)))
    (λ k. p (phase_from (suc n) script k)) (λ k l. ap p (later k)) in
    rw total (omega (arith, split, rest, first_segment p n s script, script_whole p (suc n) script)) where
      later : (k : ℕ) → phase_from n (s ∷ script) (segment_ticks s + k) ≡ phase_from (suc n) script k
      later k =
          let back : (segment_ticks s + k) - segment_ticks s ≡ k = omega arith in
          phase_later n s script (segment_ticks s + k) (omega arith) ∙ ap (phase_from (suc n) script) back

-- Past its end a script has no more.
pub script_past : (p : Phase → Bool) (n : ℕ) (script : List SegmentDef) (d : ℕ) → p Finished ≡ false
    → count_below (total_ticks script + d) (λ e. p (phase_from n script e)) ≡ ticks_where p n script
script_past p n script d none =
    let split : count_below (total_ticks script + d) (λ e. p (phase_from n script e))
    ≡ count_below (total_ticks script) (λ e. p (phase_from n script e))
    + count_below d (λ k. p (phase_from n script (total_ticks script + k))) =
    count_below-split (total_ticks script) d (λ e. p (phase_from n script e)) in
    let rest : count_below d (λ k. p (phase_from n script (total_ticks script + k))) ≡ 0 =
    count_below-none d (λ k. p (phase_from n script (total_ticks script + k)))
    (λ k l. ap p (finished_from n script (total_ticks script + k) (omega arith)) ∙ none) in
    omega (arith, split, rest, script_whole p n script)

-- So at no time are there more ticks of the kind than the segments have.
pub script_at_most : (p : Phase → Bool) (n : ℕ) (script : List SegmentDef) (d : ℕ) → p Finished ≡ false
    → count_below d (λ e. p (phase_from n script e)) ≤ ticks_where p n script
script_at_most p n script d none =
    let longer : count_below d (λ e. p (phase_from n script e)) ≤ count_below (total_ticks script + d) (λ e. p (phase_from n script e)) =
    count_below-longer d (total_ticks script + d) (λ e. p (phase_from n script e)) (omega arith) in
    omega (arith, longer, script_past p n script d none)

-- A job runs in a kind of phase at most as often as its script has ticks of that kind, and exactly as often once it is finished.
pub executed_in_at_most : (p : Phase → Bool) (w : Trace) (t j : ℕ) → p Finished ≡ false
    → executed_in p w t j ≤ ticks_where p 0 (job_of w.jobs j).script
executed_in_at_most p w t j none = rw (executed_where p w t j) (script_at_most p 0 (job_of w.jobs j).script (executed w t j) none)

-- Once a job is finished it has run in each kind of phase as often as its script has ticks of the kind.
pub executed_in_finished : (p : Phase → Bool) (w : Trace) (t j : ℕ) → p Finished ≡ false → phase_of w t j ≡ Finished
    → executed_in p w t j ≡ ticks_where p 0 (job_of w.jobs j).script
executed_in_finished p w t j none h =
    let total : total_ticks (job_of w.jobs j).script ≤ executed w t j = finished_executed w t j h in
    let e : executed w t j ≡ total_ticks (job_of w.jobs j).script + (executed w t j - total_ticks (job_of w.jobs j).script) = omega arith in
    executed_where p w t j ∙ ap (λ d. count_below d (λ e. p (phase_from 0 (job_of w.jobs j).script e))) e
    ∙ script_past p 0 (job_of w.jobs j).script (executed w t j - total_ticks (job_of w.jobs j).script) none

-- Its Local ticks.
pub ticks_local : (n : ℕ) (script : List SegmentDef) → ticks_where is_local n script ≡ local_ticks script
ticks_local n [] = refl
ticks_local n (s ∷ script) =
    let total : local_ticks (s ∷ script) ≡ s.local + local_ticks script = sum_by-cons (λ r. r.local) s script in
    let request : only_if (is_local (asking n s.request)) (request_ticks s) ≡ 0 = none s.request in
    omega (arith, total, request, ticks_local (suc n) script) where
      none : (o : Option (ℕ × ℕ)) → only_if (is_local (asking n o)) (request_ticks s) ≡ 0
      none None = refl
      none (Some r) = refl

-- A job runs Local at most its local ticks.
pub local_at_most : (w : Trace) (t j : ℕ) → executed_in is_local w t j ≤ local_ticks (job_of w.jobs j).script
local_at_most w t j = rw (← ticks_local 0 (job_of w.jobs j).script) (executed_in_at_most is_local w t j refl)

-- Its ticks in requests of q: as many requests as the script has of q, each at most its length.
length_kept : (set : SetDef) (x n q : ℕ) (s : SegmentDef) → is_length_kept set x s ≡ true
    → only_if (is_asking q (asking n s.request)) (request_ticks s) ≤ flag (asks_for q s) * length_of set x q
length_kept set x n q s h = go s.request h where
  go : (o : Option (ℕ × ℕ)) → option_map_or (λ r. nat_le r.1 (length_of set x r.0)) o true ≡ true
      → only_if (is_asking q (asking n o)) (option_map_or (λ r. r.1) o 0) ≤ flag (option_map_or (λ r. r.0 == q) o false) * length_of set x q
  go None g = omega arith
  go (Some r) g = elim (cases_Bool (r.0 == q)) [
    | inl same ↦
        let e : r.0 ≡ q = eqb-true r.0 q same in
        let most : r.1 ≤ length_of set x q = rw (← e) (leb-true r.1 (length_of set x r.0) g) in
        rw same (omega arith)
    | inr other ↦ rw other (omega arith)
  ]

-- A script's ticks in requests of q are at most its requests of q, each of the greatest length.
pub ticks_asking : (set : SetDef) (x n q : ℕ) (script : List SegmentDef) → list_all (is_length_kept set x) script ≡ true
    → ticks_where (is_asking q) n script ≤ number_of_requests script q * length_of set x q
ticks_asking set x n q [] h = omega arith
ticks_asking set x n q (s ∷ script) h =
    let parts : (is_length_kept set x s ≡ true) × (list_all (is_length_kept set x) script ≡ true) = and_parts _ _ h in
    let here : only_if (is_asking q (asking n s.request)) (request_ticks s) ≤ flag (asks_for q s) * length_of set x q =
    length_kept set x n q s parts.0 in
    let rest : ticks_where (is_asking q) (suc n) script ≤ number_of_requests script q * length_of set x q =
    ticks_asking set x (suc n) q script parts.1 in
    let number : number_of_requests (s ∷ script) q ≡ flag (asks_for q s) + number_of_requests script q =
    count_by-first (asks_for q) s script in
    let product : number_of_requests (s ∷ script) q * length_of set x q
    ≡ flag (asks_for q s) * length_of set x q + number_of_requests script q * length_of set x q =
    rw number (add-mul (flag (asks_for q s)) (number_of_requests script q) (length_of set x q)) in
    omega arith

-- A lawful job runs in requests of q at most that number times that length.
pub asking_at_most : (set : SetDef) (w : Trace) (t q j : ℕ) → IsLawfulJob set (job_of w.jobs j)
    → executed_in (is_asking q) w t j ≤ number_of_requests (job_of w.jobs j).script q * length_of set (job_of w.jobs j).task q
asking_at_most set w t q j lawful =
    let a : executed_in (is_asking q) w t j ≤ ticks_where (is_asking q) 0 (job_of w.jobs j).script =
    executed_in_at_most (is_asking q) w t j refl in
    let b : ticks_where (is_asking q) 0 (job_of w.jobs j).script
    ≤ number_of_requests (job_of w.jobs j).script q * length_of set (job_of w.jobs j).task q =
    ticks_asking set (job_of w.jobs j).task 0 q (job_of w.jobs j).script lawful.lengths in
    omega arith

-- Its ticks in one request: at most the request's length.
request_kept : (set : SetDef) (x n m q : ℕ) (s : SegmentDef) → is_length_kept set x s ≡ true
    → only_if (is_request m q (asking n s.request)) (request_ticks s) ≤ flag (n == m) * length_of set x q
request_kept set x n m q s h = go s.request h where
  go : (o : Option (ℕ × ℕ)) → option_map_or (λ r. nat_le r.1 (length_of set x r.0)) o true ≡ true
      → only_if (is_request m q (asking n o)) (option_map_or (λ r. r.1) o 0) ≤ flag (n == m) * length_of set x q
  go None g = omega arith
  go (Some r) g = elim (cases_Bool (n == m)) [
    | inr other ↦ rw other (omega arith)
    | inl same ↦ elim (cases_Bool (r.0 == q)) [
      | inl one ↦
          let e : r.0 ≡ q = eqb-true r.0 q one in
          let most : r.1 ≤ length_of set x q = rw (← e) (leb-true r.1 (length_of set x r.0) g) in
          rw (same, one) (omega arith)
      | inr two ↦ rw (same, two) (omega arith)
    ]
  ]

ticks_none : (set : SetDef) (x n m q : ℕ) (script : List SegmentDef) → list_all (is_length_kept set x) script ≡ true
    → m < n → ticks_where (is_request m q) n script ≡ 0
ticks_none set x n m q [] h l = refl
ticks_none set x n m q (s ∷ script) h l =
    let parts : (is_length_kept set x s ≡ true) × (list_all (is_length_kept set x) script ≡ true) = and_parts _ _ h in
    let here : only_if (is_request m q (asking n s.request)) (request_ticks s) ≤ flag (n == m) * length_of set x q =
    request_kept set x n m q s parts.0 in
    let other : (n == m) ≡ false = ne_eqb n m (λ e. omega arith) in
    let zero : only_if (is_request m q (asking n s.request)) (request_ticks s) ≤ 0 * length_of set x q = rw other at here in
    omega (arith, zero, ticks_none set x (suc n) m q script parts.1 (omega arith))

-- A script's ticks in request number m of q are at most the greatest length.
pub ticks_request : (set : SetDef) (x n m q : ℕ) (script : List SegmentDef)
    → list_all (is_length_kept set x) script ≡ true → ticks_where (is_request m q) n script ≤ length_of set x q
ticks_request set x n m q [] h = omega arith
ticks_request set x n m q (s ∷ script) h =
    let parts : (is_length_kept set x s ≡ true) × (list_all (is_length_kept set x) script ≡ true) = and_parts _ _ h in
    let here : only_if (is_request m q (asking n s.request)) (request_ticks s) ≤ flag (n == m) * length_of set x q =
    request_kept set x n m q s parts.0 in
    elim (cases_Bool (n == m)) [
      | inl same ↦
          let e : n ≡ m = eqb-true n m same in
          let one : only_if (is_request m q (asking n s.request)) (request_ticks s) ≤ 1 * length_of set x q = rw same at here in
          omega (arith, one, ticks_none set x (suc n) m q script parts.1 (omega arith))
      | inr other ↦
          let none : only_if (is_request m q (asking n s.request)) (request_ticks s) ≤ 0 * length_of set x q = rw other at here in
          omega (arith, none, ticks_request set x (suc n) m q script parts.1)
    ]

-- A lawful job runs in one request at most its task's length.
pub request_at_most : (set : SetDef) (w : Trace) (t m q j : ℕ) → IsLawfulJob set (job_of w.jobs j)
    → executed_in (is_request m q) w t j ≤ length_of set (job_of w.jobs j).task q
request_at_most set w t m q j lawful =
    let a : executed_in (is_request m q) w t j ≤ ticks_where (is_request m q) 0 (job_of w.jobs j).script =
    executed_in_at_most (is_request m q) w t j refl in
    omega (arith, a, ticks_request set (job_of w.jobs j).task 0 m q (job_of w.jobs j).script lawful.lengths)

-- Where running jobs are active, a job executes no more ticks than its script has.
pub executed_within : (w : Trace) (n t j : ℕ) → RunsActiveBefore w n → t ≤ n → executed w t j ≤ total_ticks (job_of w.jobs j).script
executed_within w n zero j active l = omega (arith, executed_none w j)
executed_within w n (suc t) j active l = elim (cases_Bool (runs_in (w.row t) j)) [
  | inr waits ↦ omega (arith, executed_waits w t j waits, executed_within w n t j active (omega arith))
  | inl runs ↦
      let at : (k : ℕ) × (running_on (w.row t) k ≡ Some j) = runs_where (w.row t) j runs in
      let a : Active w t j = active_is w t j (active t at.0 j (omega arith) at.1) in
      elim (cases_lt (executed w t j) (total_ticks (job_of w.jobs j).script)) [
        | inl less ↦ omega (arith, executed_runs w t j runs)
        | inr all ↦
            let f : phase_of w t j ≡ Finished = finished_at w t j all in
            let x : is_finished (phase_of w t j) ≡ true = rw f refl in
            let y : is_finished (phase_of w t j) ≡ false = a.unfinished in
            absurd (cc)
      ]
]
