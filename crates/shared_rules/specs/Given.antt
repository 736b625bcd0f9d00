-- What the tests of a row are given: a row for the machine's jobs, and jobs, resources and columns that belong to it.
use Rattle.std.specs.Prelude.{ℕ, ◌<◌, length, Option, IfSome}
use Rattle.schedule_model.specs.declared.job.JobId.{JobId}
use Rattle.schedule_model.specs.JobDef.{JobsDef}
use Rattle.schedule_model.specs.RowDef.{RowDef}
use Rattle.phase_machine.specs.Taking.{IsRowFor}

-- Can the row be tested for job j: is it one for these jobs, and j a listed one?
pub record CanTestJob (list : JobsDef) (row : RowDef) (j : ℕ) : Type 0 where
  pub fits : IsRowFor list row
  pub listed : j < length list.jobs

-- Can the row be tested for resource q: is it one for these jobs, and q one of their set?
pub record CanTestResource (list : JobsDef) (row : RowDef) (q : ℕ) : Type 0 where
  pub fits : IsRowFor list row
  pub resource : q < length list.set.resources

-- Can the row be tested at column c: is it one for these jobs, and c one of its columns, counted from 0?
pub record CanTestColumn (list : JobsDef) (row : RowDef) (c : ℕ) : Type 0 where
  pub fits : IsRowFor list row
  pub column : c < length row.running

-- Is j a listed job, and is the running job o one too, if there is one?
pub record AreTwoJobs (list : JobsDef) (j : ℕ) (o : Option JobId) : Type 0 where
  pub listed : j < length list.jobs
  pub running : IfSome o (λ r. r.0 < length list.jobs)

-- Are they, and is the row one for these jobs?
pub record CanTestJobBeside (list : JobsDef) (row : RowDef) (j : ℕ) (o : Option JobId) : Type 0 where
  pub fits : IsRowFor list row
  pub jobs : AreTwoJobs list j o
