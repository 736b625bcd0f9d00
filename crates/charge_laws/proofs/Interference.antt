-- Which jobs interfere with which, and for how many ticks a job interferes at most.
use Rattle.std.proofs.Common.{◌≡◌, ℕ, ◌<◌, ◌≤◌, ◌&&◌, Bool, true, length, arith, inl, inr}
use Rattle.std.proofs.lemmas.Bool.{cases_Bool, and_from}
use Rattle.number_laws.specs.Tests.{count_below, any_below}
use Rattle.number_laws.proofs.CountLaws.{count_below-monotone, flag-of_true, flag-of_false}
use Rattle.number_laws.proofs.TestLaws.{any_below-some, any_below-from}
use Rattle.sporadic_model.specs.SetDef.{task_at}
use Rattle.schedule_model.specs.JobDef.{job_of, total_ticks}
use Rattle.schedule_model.specs.LawfulJobs.{IsLawfulJob}
use Rattle.schedule_model.specs.RowDef.{Trace, runs_in}
use Rattle.schedule_model.specs.Phase.{is_local, phase_of, executed}
use Rattle.schedule_model.specs.Activity.{task_of, processor_of, is_active}
use Rattle.schedule_model.specs.BlockedTicks.{is_interferer, is_dpcp_interference}
use Rattle.schedule_model.specs.ProtocolLaws.{IsOneOfThree}
use Rattle.schedule_laws.specs.Agreement.{RunsActiveBefore}
use Rattle.schedule_laws.specs.Counting.{executed_in}
use Rattle.schedule_laws.proofs.Rows.{runs_from}
use Rattle.schedule_laws.proofs.Counts.{local_at_most, executed_within}
use Rattle.schedule_laws.proofs.Interferers.{Interferer, interferer_is, dpcp_interferer_higher}
use Rattle.charge_laws.specs.Interferers.{interferes_with_some}

-- A job that interferes with some job runs.
pub interferer_runs : (interferes : Trace → ℕ → ℕ → Bool) (w : Trace) (t y : ℕ) → interferes_with_some interferes w t y ≡ true
    → runs_in (w.row t) y ≡ true
unfolding interferes_with_some
interferer_runs interferes w t y h =
    let some : (j : ℕ) × (j < length w.jobs) × (is_interferer interferes w t j y ≡ true) =
    any_below-some (length w.jobs) (λ j. is_interferer interferes w t j y) h in
    let i : Interferer interferes w t some.0 y = interferer_is interferes w t some.0 y some.2 in
    runs_from (w.row t) (processor_of w some.0) y i.runs

-- Under DPCP it is Local.
pub dpcp_interferer_local : (w : Trace) (t y : ℕ) → interferes_with_some is_dpcp_interference w t y ≡ true
    → is_local (phase_of w t y) ≡ true
unfolding interferes_with_some
dpcp_interferer_local w t y h =
    let some : (j : ℕ) × (j < length w.jobs) × (is_interferer is_dpcp_interference w t j y ≡ true) =
    any_below-some (length w.jobs) (λ j. is_interferer is_dpcp_interference w t j y) h in
    (dpcp_interferer_higher w t some.0 y some.2).1

-- A lawful job interferes for at most its task's cost, whatever counts as interference.
pub interferes_within_cost : (interferes : Trace → ℕ → ℕ → Bool) (w : Trace) (n y : ℕ) → RunsActiveBefore w n
    → IsLawfulJob w.set (job_of w.jobs y)
    → count_below n (λ t. interferes_with_some interferes w t y) ≤ (task_at w.set (task_of w y)).cost
unfolding executed
interferes_within_cost interferes w n y active lawful =
    let runs : count_below n (λ t. interferes_with_some interferes w t y) ≤ executed w n y =
    count_below-monotone n (λ t. interferes_with_some interferes w t y) (λ t. runs_in (w.row t) y)
    (λ t l h. interferer_runs interferes w t y h) in
    let most : executed w n y ≤ total_ticks (job_of w.jobs y).script = executed_within w n n y active (omega arith) in
    omega (arith, runs, most, lawful.cost)

-- Under DPCP it interferes for at most its local limit.
pub interferes_within_local : (w : Trace) (n y : ℕ) → IsLawfulJob w.set (job_of w.jobs y)
    → count_below n (λ t. interferes_with_some is_dpcp_interference w t y) ≤ (task_at w.set (task_of w y)).local
unfolding executed_in
interferes_within_local w n y lawful =
    let runs : count_below n (λ t. interferes_with_some is_dpcp_interference w t y) ≤ executed_in is_local w n y =
    count_below-monotone n (λ t. interferes_with_some is_dpcp_interference w t y) (λ t. runs_in (w.row t) y && is_local (phase_of w t y))
    (λ t l h. and_from _ _ (interferer_runs is_dpcp_interference w t y h) (dpcp_interferer_local w t y h)) in
    omega (arith, runs, local_at_most w n y, lawful.local)

-- If a tick is interference for a job, the job is active.
pub interference_active : (interferes : Trace → ℕ → ℕ → Bool) (w : Trace) (t j : ℕ) → IsOneOfThree interferes w t j
    → interferes w t j ≡ true → is_active w t j ≡ true
interference_active interferes w t j three h = elim (cases_Bool (is_active w t j)) [
  | inl active ↦ active
  | inr off ↦ absurd (omega (arith, three, flag-of_true (interferes w t j) h, flag-of_false (is_active w t j) off))
]

-- A job that interferes with job j interferes with some job.
pub interferer_some : (interferes : Trace → ℕ → ℕ → Bool) (w : Trace) (m j y : ℕ) → j < length w.jobs
    → count_below m (λ t. is_interferer interferes w t j y) ≤ count_below m (λ t. interferes_with_some interferes w t y)
unfolding interferes_with_some
interferer_some interferes w m j y l =
    count_below-monotone m (λ t. is_interferer interferes w t j y)
    (λ t. any_below (length w.jobs) (λ i. is_interferer interferes w t i y))
    (λ t b h. any_below-from (length w.jobs) (λ i. is_interferer interferes w t i y) j l h)
