-- Which rows can a machine take?
use Rattle.std.specs.Prelude.{◌≡◌, ℕ, ◌<◌, true, List, length, Option, Some, None, slice_index_or}
use Rattle.schedule_model.specs.declared.job.JobId.{JobId}
use Rattle.schedule_model.specs.JobDef.{JobsDef}
use Rattle.schedule_model.specs.RowDef.{RowDef, running_on}
use Rattle.schedule_model.specs.TakenRows.{FitsJobs}
use Rattle.phase_machine.specs.MachineDef.{MachineDef}
use Rattle.phase_machine.specs.Now.{active_now}

-- Has the row one place for each processor and each resource of the jobs' set, and does it name only jobs of the list?
abbrev pub IsRowFor : JobsDef → RowDef → Type 0
IsRowFor list row = FitsJobs (record { set = list.set; jobs = list.jobs; row = λ t. row }) 0

-- If there is a job in column c: is it active, and in no column before?
pub record RunsAlone (m : MachineDef) (running : List (Option JobId)) (c : ℕ) : Type 0 where
  pub active : (j : JobId) → slice_index_or running c None ≡ Some j → active_now m j.0 ≡ true
  pub once : (b : ℕ) (j : JobId) → b < c → slice_index_or running c None ≡ Some j → slice_index_or running b None ≡ Some j → ⊥

-- Is each running job active, and in one column only?
abbrev pub AreAlone : MachineDef → List (Option JobId) → Type 0
AreAlone m running = (c : ℕ) → c < length running → RunsAlone m running c

-- Can the machine take the row: is it one for its jobs, and is each running job active and in one column only?
pub record CanTake (m : MachineDef) (row : RowDef) : Type 0 where
  pub fits : IsRowFor m.list row
  pub active : (k j : ℕ) → running_on row k ≡ Some j → active_now m j ≡ true
  pub one_column : (k l j : ℕ) → running_on row k ≡ Some j → running_on row l ≡ Some j → k ≡ l
