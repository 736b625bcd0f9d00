-- While a request is open few jobs of a higher task run at its home, each for as long as its requests there may last.
use Rattle.std.proofs.Common.{◌≡◌, ℕ, ◌+◌, ◌*◌, ◌<◌, ◌≤◌, ◌==◌, ◌&&◌, Bool, true, false, length, refl, sym, ap, ◌∙◌, arith, inl, inr}
use Rattle.std.proofs.Common.{Some}
use Rattle.std.specs.Option.{option_map_or}
use Rattle.std.proofs.Math.Nat.{mul-le-mul_right}
use Rattle.std.proofs.lemmas.Bool.{cases_lt, cases_Bool, and_from, eq-eqb, eqb-true}
use Rattle.number_laws.specs.Sums.{sum_below, flag, only_if}
use Rattle.number_laws.specs.Tests.{count_below}
use Rattle.number_laws.proofs.SumLaws.{sum_below-monotone, sum_below-swap, sum_below-term, sum_below-zero}
use Rattle.number_laws.proofs.CountLaws.{count_below-split, flag-passes}
use Rattle.sporadic_model.specs.Users.{count_of, length_of}
use Rattle.sporadic_model.specs.Homes.{home_in}
use Rattle.schedule_model.specs.JobDef.{job_of, number_of_requests}
use Rattle.schedule_model.specs.LawfulJobs.{IsLawfulJob}
use Rattle.schedule_model.specs.RowDef.{Trace, running_on, runs_in}
use Rattle.schedule_model.specs.Phase.{is_asking, phase_of}
use Rattle.schedule_model.specs.Activity.{task_of}
use Rattle.schedule_model.specs.DpcpRules.{home_of}
use Rattle.schedule_laws.specs.Counting.{executed_in}
use Rattle.schedule_laws.proofs.ActiveJobs.{active_listed}
use Rattle.schedule_laws.proofs.Counts.{asking_at_most}
use Rattle.schedule_laws.proofs.Rows.{runs_from}
use Rattle.schedule_laws.proofs.Segments.{open_resource}
use Rattle.schedule_laws.proofs.Ticks.{asking_is}
use Rattle.charge_laws.proofs.DpcpCharging.{RunsRequest}
use Rattle.row_laws.proofs.Brings.{only_if-parts}
use Rattle.row_laws.proofs.JobRows.{ActiveIn, paid_in_span}
use Rattle.window_laws.specs.Windows.{time_at, ticks_by}
use Rattle.window_laws.proofs.OpenRequests.{Open, request_runs, is_by, by_is, RunBy}

-- The job that runs on the processor; 0 where none does.
abbrev runner_of : Trace → ℕ → ℕ → ℕ
runner_of w k t = option_map_or (λ y. y) (running_on (w.row t) k) 0

-- A tick at which job y of task x runs there is one of its ticks in requests of some resource of that home.
job_term : (w : Trace) (bound : ℕ → ℕ) (n u v j m q x y t : ℕ) → Open w bound n u v j m q → u ≤ t → t ≤ v
    → only_if (runner_of w (home_of w q) t == y) (flag (is_by w (home_of w q) x t))
    ≤ sum_below (length w.set.resources)
    (λ r. only_if (home_in w.set r == home_of w q) (flag (runs_in (w.row t) y && is_asking r (phase_of w t y))))
job_term w bound n u v j m q x y t stays a b =
    elim (cases_lt 0 (only_if (runner_of w (home_of w q) t == y) (flag (is_by w (home_of w q) x t)))) [
      | inr none ↦ omega arith
      | inl some ↦
          let parts : ((runner_of w (home_of w q) t == y) ≡ true) × (0 < flag (is_by w (home_of w q) x t)) =
          only_if-parts (runner_of w (home_of w q) t == y) (flag (is_by w (home_of w q) x t)) some in
          go (eqb-true (runner_of w (home_of w q) t) y parts.0) (flag-passes (is_by w (home_of w q) x t) parts.1)
    ] where
      one : (c d : Bool) → only_if c (flag d) ≤ 1
      one true true = omega arith
      one true false = omega arith
      one false d = omega arith

      go : runner_of w (home_of w q) t ≡ y → is_by w (home_of w q) x t ≡ true
          → only_if (runner_of w (home_of w q) t == y) (flag (is_by w (home_of w q) x t))
          ≤ sum_below (length w.set.resources)
          (λ r. only_if (home_in w.set r == home_of w q) (flag (runs_in (w.row t) y && is_asking r (phase_of w t y))))
      go same is =
          let at : (r : RunBy w (home_of w q) t) × (task_of w r.job ≡ x) = by_is w (home_of w q) x t is in
          let here : at.0.job ≡ y = sym (rw at.0.runs refl) ∙ same in
          let runs : running_on (w.row t) (home_of w q) ≡ Some y = at.0.runs ∙ ap (λ (z : ℕ). Some z) here in
          let request : RunsRequest w t (home_of w q) y = request_runs w bound n u v j m q t y stays a b runs in
          let job : IsLawfulJob w.set (job_of w.jobs y) = stays.lawful.each y (active_listed w t y request.active) in
          let term : only_if (home_in w.set request.resource == home_of w q)
          (flag (runs_in (w.row t) y && is_asking request.resource (phase_of w t y)))
          ≤ sum_below (length w.set.resources)
          (λ r. only_if (home_in w.set r == home_of w q) (flag (runs_in (w.row t) y && is_asking r (phase_of w t y)))) =
          sum_below-term (length w.set.resources)
          (λ r. only_if (home_in w.set r == home_of w q) (flag (runs_in (w.row t) y && is_asking r (phase_of w t y))))
          request.resource (open_resource w.set w t y request.number request.resource job request.request) in
          let both : (runs_in (w.row t) y && is_asking request.resource (phase_of w t y)) ≡ true =
          and_from _ _ (runs_from (w.row t) (home_of w q) y runs)
          (asking_is request.number request.resource (phase_of w t y) request.request) in
          let whole : only_if (home_in w.set request.resource == home_of w q)
          (flag (runs_in (w.row t) y && is_asking request.resource (phase_of w t y))) ≡ 1 =
          rw (eq-eqb (home_in w.set request.resource) (home_of w q) request.home, both) refl in
          omega (arith, term, whole, one (runner_of w (home_of w q) t == y) (is_by w (home_of w q) x t))

-- In a span a job runs in requests of a resource at most as long as its requests of it may last.
resource_ticks : (w : Trace) (bound : ℕ → ℕ) (n u v j m q span x y r : ℕ) → Open w bound n u v j m q → y < length w.jobs → task_of w y ≡ x
    → sum_below span (λ d. only_if (home_in w.set r == home_of w q) (flag (runs_in (w.row (u + d)) y && is_asking r (phase_of w (u + d) y))))
    ≤ only_if (home_in w.set r == home_of w q) (count_of w.set x r * length_of w.set x r)
unfolding executed_in
resource_ticks w bound n u v j m q span x y r stays listed task = elim (cases_Bool (home_in w.set r == home_of w q)) [
  | inr away ↦
      let none : sum_below span (λ d. only_if (home_in w.set r == home_of w q) (flag (asks (u + d)))) ≡ 0 =
      sum_below-zero span (λ d. only_if (home_in w.set r == home_of w q) (flag (asks (u + d)))) (λ d l. rw away refl) in
      omega (arith, none)
  | inl here ↦
      let job : IsLawfulJob w.set (job_of w.jobs y) = stays.lawful.each y listed in
      let whole : executed_in (is_asking r) w (u + span) y
      ≤ number_of_requests (job_of w.jobs y).script r * length_of w.set (task_of w y) r =
      asking_at_most w.set w (u + span) r y job in
      let most : executed_in (is_asking r) w (u + span) y ≤ number_of_requests (job_of w.jobs y).script r * length_of w.set x r =
      rw task at whole in
      let number : number_of_requests (job_of w.jobs y).script r ≤ count_of w.set x r = rw task at (job.count r) in
      rw here (omega (arith, most, mul-le-mul_right (length_of w.set x r) number, count_below-split u span asks))
] where
  asks : ℕ → Bool
  asks = λ t. runs_in (w.row t) y && is_asking r (phase_of w t y)

job_ticks : (w : Trace) (bound : ℕ → ℕ) (n u v j m q span x y : ℕ) → Open w bound n u v j m q → u + span ≤ v → y < length w.jobs
    → task_of w y ≡ x
    → sum_below span (λ d. only_if (runner_of w (home_of w q) (u + d) == y) (flag (is_by w (home_of w q) x (u + d))))
    ≤ time_at w.set x (home_of w q)
job_ticks w bound n u v j m q span x y stays long listed task =
    let each : sum_below span (λ d. only_if (runner_of w (home_of w q) (u + d) == y) (flag (is_by w (home_of w q) x (u + d))))
    ≤ sum_below span (λ d. sum_below (length w.set.resources) (part d)) =
    sum_below-monotone span (λ d. only_if (runner_of w (home_of w q) (u + d) == y) (flag (is_by w (home_of w q) x (u + d))))
    (λ d. sum_below (length w.set.resources) (part d))
    (λ d l. job_term w bound n u v j m q x y (u + d) stays (omega arith) (omega (arith, l, long))) in
    let sums : sum_below (length w.set.resources) (λ r. sum_below span (λ d. part d r)) ≤ time_at w.set x (home_of w q) =
    sum_below-monotone (length w.set.resources) (λ r. sum_below span (λ d. part d r))
    (λ r. only_if (home_in w.set r == home_of w q) (count_of w.set x r * length_of w.set x r))
    (λ r l. resource_ticks w bound n u v j m q span x y r stays listed task) in
    omega (arith, each, sums, sum_below-swap span (length w.set.resources) part) where
      part : ℕ → ℕ → ℕ
      part = λ d r. only_if (home_in w.set r == home_of w q) (flag (runs_in (w.row (u + d)) y && is_asking r (phase_of w (u + d) y)))

-- So the jobs of x run there for no more ticks than the window counts.
pub higher_ticks : (w : Trace) (bound : ℕ → ℕ) (n u v j m q span x : ℕ) → Open w bound n u v j m q → u + span ≤ v
    → x < length w.set.tasks
    → count_below span (λ d. is_by w (home_of w q) x (u + d)) ≤ ticks_by w.set bound (home_of w q) span x
higher_ticks w bound n u v j m q span x stays long l =
    paid_in_span w bound u span x span (time_at w.set x (home_of w q)) (λ d. runner_of w (home_of w q) (u + d))
    (λ d. flag (is_by w (home_of w q) x (u + d))) stays.lawful (stays.periods x l) stays.ended
    (λ d b some. runs d b (flag-passes (is_by w (home_of w q) x (u + d)) some))
    (λ y b task. job_ticks w bound n u v j m q span x y stays long b task) where
      runs : (d : ℕ) → d < span → is_by w (home_of w q) x (u + d) ≡ true
          → ActiveIn w u (u + span) x (runner_of w (home_of w q) (u + d))
      runs d b h =
          let at : (r : RunBy w (home_of w q) (u + d)) × (task_of w r.job ≡ x) = by_is w (home_of w q) x (u + d) h in
          let request : RunsRequest w (u + d) (home_of w q) at.0.job =
          request_runs w bound n u v j m q (u + d) at.0.job stays (omega arith) (omega (arith, b, long)) at.0.runs in
          let same : runner_of w (home_of w q) (u + d) ≡ at.0.job = rw at.0.runs refl in
          rw same (record { tick = u + d; active = request.active; task = at.1; from = omega arith; before = omega (arith, b) })
