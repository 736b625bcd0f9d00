-- Schedules and jobs that exist.
use Rattle.std.specs.Prelude.{◌≡◌, ℕ, ◌<◌, [], ◌∷◌}
use Rattle.sporadic_model.specs.SetDef.{SetDef}
use Rattle.schedule_model.specs.JobDef.{JobDef, JobsDef}
use Rattle.schedule_model.specs.LawfulJobs.{IsLawfulJob, AreLawfulIn}
use Rattle.schedule_model.specs.RowDef.{Trace, jobs_of}
use Rattle.schedule_model.specs.declared.rule.Rule.{Rule}
use Rattle.soundness_laws.specs.Sound.{IsLawfulSchedule}

-- There is a lawful schedule of n rows of these jobs, and the protocol chooses each of its rows.
pub record HasSchedule (keeps : Rule → Trace → ℕ → Type 0) (chooses : Trace → ℕ → Type 0) (jobs : JobsDef) (n : ℕ) : Type 0 where
  pub schedule : Trace
  pub jobs_are : jobs_of schedule ≡ jobs
  pub lawful : IsLawfulSchedule keeps jobs.set schedule n
  pub chosen : (t : ℕ) → t < n → chooses schedule t

-- There is a lawful job of task x that is released at this tick. Alone it is a lawful list of jobs.
pub record HasLawfulJob (set : SetDef) (x tick : ℕ) : Type 0 where
  pub job : JobDef
  pub task : job.task ≡ x
  pub release : job.release ≡ tick
  pub lawful : IsLawfulJob set job
  pub alone : AreLawfulIn set (job ∷ [])
