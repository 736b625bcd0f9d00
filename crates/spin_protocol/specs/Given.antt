-- What functions here are given: what the counts of a task's requests are made of, and jobs of a machine.
use Rattle.std.specs.Prelude.{◌≡◌, ℕ, ◌<◌, List, length, Option}
use Rattle.sporadic_model.specs.SetDef.{SetDef}
use Rattle.sporadic_model.specs.Bounds.{AreWithinDeadlines}
use Rattle.schedule_model.specs.declared.job.JobId.{JobId}
use Rattle.phase_machine.specs.MachineDef.{MachineDef}

-- Are i and z tasks of the set?
pub record AreTwoTasks (set : SetDef) (i z : ℕ) : Type 0 where
  pub task : i < length set.tasks
  pub other : z < length set.tasks

-- Are the task and the resource ones of the set, and the bounds within its deadlines?
pub record AreOfSet (set : SetDef) (i q : ℕ) (bounds : List ℕ) : Type 0 where
  pub task : i < length set.tasks
  pub resource : q < length set.resources
  pub within : AreWithinDeadlines set bounds

-- Is j a job, and has each resource one place among the holders?
pub record AreJobAndHolders (m : MachineDef) (j : ℕ) (holders : List (Option JobId)) : Type 0 where
  pub listed : j < length m.list.jobs
  pub sized : length holders ≡ length m.list.set.resources
