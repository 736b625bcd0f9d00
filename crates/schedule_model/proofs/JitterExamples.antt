-- A worked schedule of jobs that are released after they arrive.
use Rattle.std.proofs.Common.{◌≡◌, ℕ, zero, suc, ◌+◌, ◌<◌, ◌≤◌, [], ◌∷◌, refl, arith, Some}
use Rattle.sporadic_model.specs.SetDef.{task_at}
use Rattle.schedule_model.specs.JobDef.{job_of}
use Rattle.schedule_model.specs.LawfulJobs.{IsLawfulJob, AreLawfulJobs}
use Rattle.schedule_model.specs.JobLists.{is_within_budget, is_too_close, is_too_many, is_late, first_refusal}
use Rattle.schedule_model.specs.RowDef.{runs_in}
use Rattle.schedule_model.specs.Phase.{phase_from, executed, phase_of}
use Rattle.schedule_model.specs.Activity.{is_pending, is_next, is_active, is_requester, issue_tick_of, is_active_local}
use Rattle.schedule_model.specs.Activity.{is_ready_holder, is_ready}
use Rattle.schedule_model.specs.Ranks.{fmlp_plus}
use Rattle.schedule_model.specs.Protocols.{shared_rule}
use Rattle.schedule_model.specs.Keeping.{KeepsBefore}
use Rattle.schedule_model.specs.BlockedTicks.{is_delayed, runs_higher, is_shared_interference, is_blocked}
use Rattle.schedule_model.specs.Measures.{has_finished, finish_of, response_of, blocking_of, counts_for, finished_jobs, measures_of}
use Rattle.schedule_model.specs.declared.refusal.JobRefusal.TheVariants as refusal
use Rattle.schedule_model.proofs.RuleTests.{passes_shared, shared_from}
use Rattle.schedule_model.proofs.KeepingTests.{keeps_from}
use Rattle.schedule_model.proofs.WorkedFiles.{local_only, job, held_job, set_jit, jobs_jit, trace_jit}

jit_job : (arrival release : ℕ) → arrival ≤ release → release ≤ arrival + 4 → IsLawfulJob set_jit (held_job 0 arrival release (local_only 2 ∷ []))
jit_job arrival release after within = record {
  task = omega arith;
  arrived = after;
  in_time = within;
  script = refl;
  resources = refl;
  cost = omega arith;
  local = omega arith;
  count = λ q. omega arith;
  lengths = refl;
}

long_job : IsLawfulJob set_jit (job 1 4 (local_only 5 ∷ []))
long_job = record {
  task = omega arith;
  arrived = omega arith;
  in_time = omega arith;
  script = refl;
  resources = refl;
  cost = omega arith;
  local = omega arith;
  count = λ q. omega arith;
  lengths = refl;
}

-- The jobs are lawful, though two of one task are released less than a period apart: their arrivals are a period apart.
pub jit_lawful : AreLawfulJobs jobs_jit
jit_lawful = record { each = each; apart = apart } where
  each : (j : ℕ) → j < 3 → IsLawfulJob set_jit (job_of jobs_jit.jobs j)
  each zero l = jit_job 0 4 (omega arith) (omega arith)
  each (suc zero) l = jit_job 10 10 (omega arith) (omega arith)
  each (suc (suc zero)) l = long_job
  each (suc (suc (suc j))) l = absurd (omega arith)

  apart : (a b : ℕ) → a < b → b < 3 → (job_of jobs_jit.jobs a).task ≡ (job_of jobs_jit.jobs b).task
      → (job_of jobs_jit.jobs a).arrival + (task_at set_jit (job_of jobs_jit.jobs a).task).period ≤ (job_of jobs_jit.jobs b).arrival
  apart zero (suc zero) l m e = omega arith
  apart zero (suc (suc zero)) l m e = absurd (omega arith)
  apart (suc zero) (suc (suc zero)) l m e = absurd (omega arith)
  apart zero zero l m e = absurd (omega arith)
  apart (suc zero) zero l m e = absurd (omega arith)
  apart (suc zero) (suc zero) l m e = absurd (omega arith)
  apart (suc (suc a)) b l m e = absurd (omega arith)
  apart a (suc (suc (suc b))) l m e = absurd (omega arith)

-- One tick later than the jitter allows, the first job is refused. If jobs arrive when they are released, the second is refused 6 ticks
-- after the first.
pub jit_refusals : first_refusal (record { set = set_jit; jobs = [] }) (held_job 0 0 5 (local_only 2 ∷ []))
    ∷ first_refusal (record { set = set_jit; jobs = job 0 4 (local_only 2 ∷ []) ∷ [] }) (job 0 10 (local_only 2 ∷ [])) ∷ []
    ≡ Some refusal.Late ∷ Some refusal.TooClose ∷ []
unfolding is_within_budget is_too_close is_too_many is_late
jit_refusals = refl

-- The rows keep the rules.
pub jit_keeps_fmlp : KeepsBefore (shared_rule fmlp_plus) trace_jit 13
unfolding phase_of phase_from executed runs_in is_pending is_next is_active is_requester issue_tick_of is_active_local
    is_ready_holder is_ready fmlp_plus
jit_keeps_fmlp = keeps_from (shared_rule fmlp_plus) trace_jit (passes_shared fmlp_plus trace_jit)
    (shared_from fmlp_plus trace_jit) 13 refl

-- Responses count from the releases. The lower task's job is released at tick 4 and finished at 13, since both jobs of the
-- higher one run within these 9 ticks.
pub measures_of_jit : measures_of is_shared_interference trace_jit 13 0 ∷ measures_of is_shared_interference trace_jit 13 1 ∷ []
    ≡ record { finished = 2; response = Some 2; blocking = 0 } ∷ record { finished = 1; response = Some 9; blocking = 0 } ∷ []
unfolding phase_of phase_from executed runs_in is_pending is_next is_active is_delayed runs_higher
    is_shared_interference is_blocked has_finished finish_of response_of blocking_of counts_for finished_jobs
    measures_of
measures_of_jit = refl
