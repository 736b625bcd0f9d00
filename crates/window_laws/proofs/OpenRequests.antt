-- What runs at a request's home while the request is open, under DPCP.
use Rattle.std.proofs.Common.{◌≡◌, ℕ, ◌+◌, ◌<◌, ◌≤◌, ◌==◌, Bool, true, false, length, refl, arith, inl, inr}
use Rattle.std.proofs.Common.{Option, Some, None, nat_lt}
use Rattle.std.specs.Option.{option_map_or}
use Rattle.std.proofs.lemmas.Bool.{cases_lt, eq-eqb, eqb-true, lt-ltb, ltb-true}
use Rattle.number_laws.specs.Sums.{sum_below, flag}
use Rattle.number_laws.specs.Tests.{count_below}
use Rattle.number_laws.proofs.SumLaws.{sum_below-term, sum_below-monotone, sum_below-plus, sum_below-swap, sum_below-constant}
use Rattle.sporadic_model.specs.SetDef.{task_at}
use Rattle.schedule_model.specs.LawfulJobs.{AreLawfulJobs}
use Rattle.schedule_model.specs.RowDef.{Trace, jobs_of, running_on}
use Rattle.schedule_model.specs.Phase.{phase_of}
use Rattle.schedule_model.specs.Phase.Phase.{Asking}
use Rattle.schedule_model.specs.Activity.{task_of, is_active}
use Rattle.schedule_model.specs.DpcpRules.{home_of, has_requests}
use Rattle.schedule_model.specs.Protocols.{dpcp_rule}
use Rattle.schedule_model.specs.Keeping.{KeepsBefore}
use Rattle.schedule_laws.proofs.Ticks.{open_between}
use Rattle.schedule_laws.proofs.ActiveJobs.{active_listed, active_stays}
use Rattle.schedule_laws.proofs.RuleUses.{requests_busy, request_among}
use Rattle.charge_laws.specs.Windows.{EndedBy}
use Rattle.charge_laws.proofs.DpcpCharging.{RunsRequest, RunsAtHomes, dpcp_at_homes, requests_run_home, request_at_from}

-- Job j is in its request number m, of resource q, from tick u to tick v of n rows; and each job whose bound has passed by u has ended.
pub record Open (w : Trace) (bound : ℕ → ℕ) (n u v j m q : ℕ) : Type 0 where
  pub lawful : AreLawfulJobs (jobs_of w)
  pub keeps : KeepsBefore dpcp_rule w n
  pub periods : (x : ℕ) → x < length w.set.tasks → 0 < (task_at w.set x).period
  pub ended : EndedBy w bound u
  pub order : u ≤ v
  pub within : v < n
  pub active : is_active w u j ≡ true
  pub early : phase_of w u j ≡ Asking m q
  pub late : phase_of w v j ≡ Asking m q

pub open_request : (w : Trace) (bound : ℕ → ℕ) (n u v j m q t : ℕ) → Open w bound n u v j m q → u ≤ t → t ≤ v → phase_of w t j ≡ Asking m q
open_request w bound n u v j m q t stays a b = open_between w u t v j m q q stays.early stays.late a b

pub open_active : (w : Trace) (bound : ℕ → ℕ) (n u v j m q t : ℕ) → Open w bound n u v j m q → u ≤ t → t ≤ v → is_active w t j ≡ true
open_active w bound n u v j m q t stays a b =
    active_stays w u t j stays.active a (rw (open_request w bound n u v j m q t stays a b) refl)

open_requests : (w : Trace) (bound : ℕ → ℕ) (n u v j m q t : ℕ) → Open w bound n u v j m q → u ≤ t → t ≤ v
    → has_requests w t (home_of w q) ≡ true
open_requests w bound n u v j m q t stays a b =
    let active : is_active w t j ≡ true = open_active w bound n u v j m q t stays a b in
    request_among w t (home_of w q) j (active_listed w t j active)
    (request_at_from w t j m q active (open_request w bound n u v j m q t stays a b))

open_homes : (w : Trace) (bound : ℕ → ℕ) (n u v j m q t : ℕ) → Open w bound n u v j m q → t ≤ v → RunsAtHomes w t
open_homes w bound n u v j m q t stays b = dpcp_at_homes w t (stays.keeps t (omega (arith, stays.within, b)))

-- What runs there runs a request.
pub request_runs : (w : Trace) (bound : ℕ → ℕ) (n u v j m q t y : ℕ) → Open w bound n u v j m q → u ≤ t → t ≤ v
    → running_on (w.row t) (home_of w q) ≡ Some y → RunsRequest w t (home_of w q) y
request_runs w bound n u v j m q t y stays a b e =
    requests_run_home w t (home_of w q) y (open_homes w bound n u v j m q t stays b) (open_requests w bound n u v j m q t stays a b) e

-- Does a job of task x run on the processor, and does one of a task lower than i?
abbrev pub is_by : Trace → ℕ → ℕ → ℕ → Bool
is_by w k x t = option_map_or (λ y. task_of w y == x) (running_on (w.row t) k) false

abbrev pub is_by_lower : Trace → ℕ → ℕ → ℕ → Bool
is_by_lower w k i t = option_map_or (λ y. nat_lt i (task_of w y)) (running_on (w.row t) k) false

-- The job that does.
pub record RunBy (w : Trace) (k t : ℕ) : Type 0 where
  pub job : ℕ
  pub runs : running_on (w.row t) k ≡ Some job

pub by_is : (w : Trace) (k x t : ℕ) → is_by w k x t ≡ true → (r : RunBy w k t) × (task_of w r.job ≡ x)
by_is w k x t h = go (running_on (w.row t) k) refl h where
  go : (o : Option ℕ) → running_on (w.row t) k ≡ o → option_map_or (λ y. task_of w y == x) o false ≡ true
      → (r : RunBy w k t) × (task_of w r.job ≡ x)
  go None e g = absurd (cc)
  go (Some y) e g = (record { job = y; runs = e }, eqb-true (task_of w y) x g)

pub lower_is : (w : Trace) (k i t : ℕ) → is_by_lower w k i t ≡ true → (r : RunBy w k t) × (i < task_of w r.job)
lower_is w k i t h = go (running_on (w.row t) k) refl h where
  go : (o : Option ℕ) → running_on (w.row t) k ≡ o → option_map_or (λ y. nat_lt i (task_of w y)) o false ≡ true
      → (r : RunBy w k t) × (i < task_of w r.job)
  go None e g = absurd (cc)
  go (Some y) e g = (record { job = y; runs = e }, ltb-true i (task_of w y) g)

-- At each tick a job of task i, of a lower task or of one of the higher ones runs there.
one_runs : (w : Trace) (k i t y : ℕ) → running_on (w.row t) k ≡ Some y
    → 1 ≤ flag (is_by w k i t) + (flag (is_by_lower w k i t) + sum_below i (λ x. flag (is_by w k x t)))
one_runs w k i t y e = elim (cases_lt (task_of w y) i) [
  | inl higher ↦
      let one : flag (is_by w k (task_of w y) t) ≡ 1 = rw (e, eq-eqb (task_of w y) (task_of w y) refl) refl in
      omega (arith, one, sum_below-term i (λ x. flag (is_by w k x t)) (task_of w y) higher)
  | inr rest ↦ elim (cases_lt i (task_of w y)) [
    | inl lower ↦
        let one : flag (is_by_lower w k i t) ≡ 1 = rw (e, lt-ltb i (task_of w y) lower) refl in omega (arith, one)
    | inr same ↦
        let own : task_of w y ≡ i = omega (arith, rest, same) in
        let one : flag (is_by w k i t) ≡ 1 = rw (e, eq-eqb (task_of w y) i own) refl in
        omega (arith, one)
  ]
]

-- So the ticks of a span are at most those of i's jobs, of lower tasks and of each higher one.
pub span_parts : (w : Trace) (bound : ℕ → ℕ) (n u v j m q span : ℕ) → Open w bound n u v j m q → u + span ≤ v
    → span
    ≤ count_below span (λ d. is_by w (home_of w q) (task_of w j) (u + d))
    + (count_below span (λ d. is_by_lower w (home_of w q) (task_of w j) (u + d))
    + sum_below (task_of w j) (λ x. count_below span (λ d. is_by w (home_of w q) x (u + d))))
span_parts w bound n u v j m q span stays long =
    let each : sum_below span (λ d. 1) ≤ sum_below span (λ d. own d + (low d + high d)) =
    sum_below-monotone span (λ d. 1) (λ d. own d + (low d + high d)) (λ d l.
    let busy : (r : ℕ) × (running_on (w.row (u + d)) k ≡ Some r) =
    requests_busy w (u + d) k (open_homes w bound n u v j m q (u + d) stays (omega (arith, long, l))).idle
    (open_requests w bound n u v j m q (u + d) stays (omega arith) (omega (arith, long, l))) in
    one_runs w k i (u + d) busy.0 busy.1) in
    omega (
      arith,
      each,
      sum_below-constant span 1,
      sum_below-plus span own (λ d. low d + high d),
      sum_below-plus span low high,
      sum_below-swap span i (λ d x. flag (is_by w k x (u + d))),
    ) where
      k : ℕ
      k = home_of w q

      i : ℕ
      i = task_of w j

      own : ℕ → ℕ
      own = λ d. flag (is_by w k i (u + d))

      low : ℕ → ℕ
      low = λ d. flag (is_by_lower w k i (u + d))

      high : ℕ → ℕ
      high = λ d. sum_below i (λ x. flag (is_by w k x (u + d)))
