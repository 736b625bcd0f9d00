-- Worked examples of lawful jobs, of a task's active job, of the job that makes a tick interference, and of rows that can be taken.
use Rattle.std.proofs.Common.{◌≡◌, ℕ, zero, suc, ◌+◌, ◌<◌, ◌≤◌, true, false, [], ◌∷◌, refl, arith, Some, None}
use Rattle.sporadic_model.specs.SetDef.{SetDef, task_at}
use Rattle.schedule_model.specs.JobDef.{JobsDef, job_of}
use Rattle.schedule_model.specs.LawfulJobs.{IsLawfulJob, AreLawfulJobs}
use Rattle.schedule_model.specs.JobLists.{IsJobList}
use Rattle.schedule_model.specs.RowDef.{runs_in}
use Rattle.schedule_model.specs.Phase.{phase_from, executed, phase_of}
use Rattle.schedule_model.specs.Activity.{is_pending, is_next, is_active, is_active_job_of, active_job_of}
use Rattle.schedule_model.specs.BlockedTicks.{is_delayed, runs_higher, runs_higher_local, is_shared_interference}
use Rattle.schedule_model.specs.BlockedTicks.{is_dpcp_interference, is_interferer}
use Rattle.schedule_model.specs.TakenRows.{CanBeTaken}
use Rattle.schedule_model.proofs.WorkedFiles.{task, local_only, job, trace_a, trace_twice, trace_one, trace_unrun}

-- One task of period 1, and two jobs of it that are further apart than a list of jobs reaches.
abbrev far_set : SetDef
far_set = record { processors = 1; resources = []; tasks = task 49 1 1 1 [] ∷ [] }

abbrev far_jobs : JobsDef
far_jobs = record { set = far_set; jobs = job 0 0 (local_only 1 ∷ []) ∷ job 0 1000000001 (local_only 1 ∷ []) ∷ [] }

far_job : (r : ℕ) → IsLawfulJob far_set (job 0 r (local_only 1 ∷ []))
far_job r = record {
  task = omega arith;
  arrived = omega arith;
  in_time = omega arith;
  script = refl;
  resources = refl;
  cost = omega arith;
  local = omega arith;
  count = λ q. omega arith;
  lengths = refl;
}

-- They are lawful,
pub far_lawful : AreLawfulJobs far_jobs
far_lawful = record { each = each; apart = apart } where
  each : (j : ℕ) → j < 2 → IsLawfulJob far_set (job_of far_jobs.jobs j)
  each zero l = far_job 0
  each (suc zero) l = far_job 1000000001
  each (suc (suc j)) l = absurd (omega arith)

  apart : (a b : ℕ) → a < b → b < 2 → (job_of far_jobs.jobs a).task ≡ (job_of far_jobs.jobs b).task
      → (job_of far_jobs.jobs a).arrival + (task_at far_set (job_of far_jobs.jobs a).task).period ≤ (job_of far_jobs.jobs b).arrival
  apart zero (suc zero) l m e = omega arith
  apart zero zero l m e = absurd (omega arith)
  apart zero (suc (suc b)) l m e = absurd (omega arith)
  apart (suc a) zero l m e = absurd (omega arith)
  apart (suc a) (suc zero) l m e = absurd (omega arith)
  apart (suc a) (suc (suc b)) l m e = absurd (omega arith)

-- and no list takes the second.
pub far_unlisted : IsJobList far_jobs → ⊥
far_unlisted listed = let late : 1000000001 ≤ 1000000000 = listed.release 1 (omega arith) in omega arith

-- At tick 0 each task's first job is active; at tick 3 the second task's only one is, and at tick 4 it is finished.
pub active_jobs_of_a : active_job_of trace_a 0 0 ∷ active_job_of trace_a 0 1 ∷ active_job_of trace_a 3 1
    ∷ active_job_of trace_a 4 1 ∷ [] ≡ Some 0 ∷ Some 1 ∷ Some 1 ∷ None ∷ []
unfolding phase_of phase_from executed runs_in is_pending is_next is_active is_active_job_of active_job_of
active_jobs_of_a = refl

-- The second job of a task is its active job once the first is finished.
pub next_active : active_job_of trace_unrun 10 1 ∷ active_job_of trace_one 10 1 ∷ [] ≡ Some 1 ∷ Some 2 ∷ []
unfolding phase_of phase_from executed runs_in is_pending is_next is_active is_active_job_of active_job_of
next_active = refl

-- At tick 1 the higher job's request runs: under shared memory it makes the tick interference for the lower job, and
-- under DPCP it doesn't. At tick 0, where it is Local, it does under both. No job does so for itself.
pub interferers_of_one : is_interferer is_shared_interference trace_one 1 1 0
    ∷ is_interferer is_dpcp_interference trace_one 1 1 0 ∷ is_interferer is_dpcp_interference trace_one 0 1 0
    ∷ is_interferer is_shared_interference trace_one 0 1 1 ∷ [] ≡ true ∷ false ∷ true ∷ false ∷ []
unfolding phase_of phase_from executed runs_in is_pending is_next is_active is_delayed runs_higher runs_higher_local
    is_shared_interference is_dpcp_interference is_interferer
interferers_of_one = refl

-- A row in which a job is in two columns can't be taken.
pub twice_not_taken : CanBeTaken trace_twice 0 → ⊥
twice_not_taken taken = let same : ◌≡◌ {A = ℕ} 1 2 = taken.one_column 1 2 0 refl refl in omega arith
