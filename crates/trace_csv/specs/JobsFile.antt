-- Files of jobs in CSV, and what the answer of reading one says.
use Rattle.std.specs.Prelude.{◌≡◌, ℕ, ◌<◌, ◌==◌, ◌⊎◌, Bool, codes, List, [], ◌∷◌, length, map, drop, slice_get, None, Some, Result, Ok, Err}
use Rattle.sporadic_model.specs.SetDef.{SetDef}
use Rattle.schedule_model.specs.JobDef.{JobsDef}
use Rattle.trace_csv.specs.declared.refusal.JobsRefusal.{JobsRefusal}
use Rattle.trace_csv.specs.declared.refusal.JobsRefusal.TheVariants as refusal
use Rattle.trace_csv.specs.Records.{Fields, line_at, records_in}
use Rattle.trace_csv.specs.JobLines.{completed, jobs_written, refusal_at}

-- The header of a file of jobs that arrive when they are released. And the header of a file with arrivals.
abbrev pub jobs_header : Fields
jobs_header = codes "task" ∷ codes "release" ∷ codes "script" ∷ []

abbrev pub arrivals_header : Fields
arrivals_header = codes "task" ∷ codes "arrival" ∷ codes "release" ∷ codes "script" ∷ []

-- Do the records begin with one of the two?
abbrev pub HasJobsHeader : List Fields → Type 0
HasJobsHeader records = (slice_get records 0 ≡ Some jobs_header) ⊎ (slice_get records 0 ≡ Some arrivals_header)

-- Does the header, which is one of the two, name arrivals? Then it has four fields, and else three.
abbrev pub has_arrivals : List Fields → Bool
has_arrivals records = length (line_at records 0) == 4

-- The lines after the header. Each has its four fields if it is well formed.
abbrev pub job_lines : List Fields → List Fields
job_lines records = map (completed (has_arrivals records)) (drop 1 records)

-- The records of a file of jobs: a header, and lines of which none is refused after those before it.
pub record AreJobsRecords (set : SetDef) (records : List Fields) : Type 0 where
  pub header : HasJobsHeader records
  pub lines : (i : ℕ) → i < length (job_lines records) → refusal_at set (job_lines records) i ≡ None

-- Is the text a file of jobs?
abbrev pub IsJobsFile : SetDef → List ℕ → Type 0
IsJobsFile set bytes = AreJobsRecords set (records_in bytes)

-- Line i is the first one that is refused, and this is why.
pub record IsFirstRefused (set : SetDef) (lines : List Fields) (i : ℕ) (r : JobsRefusal) : Type 0 where
  pub within : i < length lines
  pub earlier : (j : ℕ) → j < i → refusal_at set lines j ≡ None
  pub here : refusal_at set lines i ≡ Some r

-- What the answer says of the text's lines after the header. Either none is refused, and these are their jobs. Or this is the first line
-- that is refused. Only want of memory says nothing of them.
abbrev pub LinesRead : Result JobsDef JobsRefusal → SetDef → List Fields → Type 0
LinesRead (Ok list) set lines = ((i : ℕ) → i < length lines → refusal_at set lines i ≡ None) × (list ≡ jobs_written set lines)
LinesRead (Err refusal.Memory) set lines = Unit {0}
LinesRead (Err r) set lines = (i : ℕ) × IsFirstRefused set lines i r

-- What the answer of reading says of the records. They are those of a file of jobs, and these are its jobs. Or the header is missing. Or it
-- is what is said of the lines.
abbrev pub RecordsRead : Result JobsDef JobsRefusal → SetDef → List Fields → Type 0
RecordsRead (Ok list) set records = AreJobsRecords set records × (list ≡ jobs_written set (job_lines records))
RecordsRead (Err refusal.Memory) set records = Unit {0}
RecordsRead (Err r) set records =
    ((r ≡ refusal.Fields 0) × (HasJobsHeader records → ⊥))
    ⊎ (HasJobsHeader records × ((i : ℕ) × IsFirstRefused set (job_lines records) i r))

-- What it says of the text: the same as of its records.
abbrev pub JobsRead : Result JobsDef JobsRefusal → SetDef → List ℕ → Type 0
JobsRead answer set bytes = RecordsRead answer set (records_in bytes)

-- The answer is the jobs, or want of memory.
abbrev pub IsUnrefused : Result JobsDef JobsRefusal → Type 0
IsUnrefused (Ok list) = Unit {0}
IsUnrefused (Err refusal.Memory) = Unit {0}
IsUnrefused (Err _) = ⊥
