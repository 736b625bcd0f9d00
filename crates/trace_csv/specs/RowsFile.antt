-- Files of rows in CSV, and what the answer of reading one says.
use Rattle.std.specs.Prelude.{◌≡◌, ℕ, ◌<◌, ◌⊎◌, codes, decimal, List, ◌∷◌, ◌++◌, map, length, drop, slice_get, None, Some, Result, Ok, Err}
use Rattle.std.specs.List.{range_with_len}
use Rattle.sporadic_model.specs.SetDef.{SetDef}
use Rattle.schedule_model.specs.JobDef.{JobsDef}
use Rattle.schedule_model.specs.RowDef.{RunDef}
use Rattle.schedule_model.specs.Fitting.{RowsDef}
use Rattle.trace_csv.specs.declared.refusal.RowsRefusal.{RowsRefusal}
use Rattle.trace_csv.specs.declared.refusal.RowsRefusal.TheVariants as refusal
use Rattle.trace_csv.specs.Records.{Fields, records_in}
use Rattle.trace_csv.specs.RowLines.{runs_written, refusal_at}

-- The header of a file of rows: `ticks`, the processors from `P1` on, and the names of the resources in order.
abbrev pub processor_field : ℕ → List ℕ
processor_field k = codes "P" ++ decimal k

abbrev pub processor_fields : ℕ → List (List ℕ)
processor_fields processors = map processor_field (range_with_len 1 processors)

abbrev pub resource_fields : SetDef → List (List ℕ)
resource_fields set = map (λ r. r.name) set.resources

abbrev pub rows_header : SetDef → Fields
rows_header set = codes "ticks" ∷ (processor_fields set.processors ++ resource_fields set)

-- Do the records begin with the header?
abbrev pub HasRowsHeader : SetDef → List Fields → Type 0
HasRowsHeader set records = slice_get records 0 ≡ Some (rows_header set)

-- The records of a file of rows of the jobs: the header, and lines of which none is refused after those before it.
pub record AreRowsRecords (jobs : JobsDef) (records : List Fields) : Type 0 where
  pub header : HasRowsHeader jobs.set records
  pub lines : (i : ℕ) → i < length (drop 1 records) → refusal_at jobs (drop 1 records) i ≡ None

-- Is the text a file of rows of the jobs? And which runs are those of its lines?
abbrev pub IsRowsFile : JobsDef → List ℕ → Type 0
IsRowsFile jobs bytes = AreRowsRecords jobs (records_in bytes)

abbrev pub runs_in : JobsDef → List ℕ → List RunDef
runs_in jobs bytes = runs_written jobs (drop 1 (records_in bytes))

-- Line i is the first one that is refused, and this is why.
pub record IsFirstRefused (jobs : JobsDef) (lines : List Fields) (i : ℕ) (r : RowsRefusal) : Type 0 where
  pub within : i < length lines
  pub earlier : (j : ℕ) → j < i → refusal_at jobs lines j ≡ None
  pub here : refusal_at jobs lines i ≡ Some r

-- These runs as a list of rows that is made for the jobs.
abbrev pub rows_with : JobsDef → List RunDef → RowsDef
rows_with jobs runs =
    record { processors = jobs.set.processors; resources = length jobs.set.resources; jobs = length jobs.jobs; runs = runs }

-- What the answer says of the text's lines after the header. Either none is refused, and these are their runs. Or this is the first line
-- that is refused. Only want of memory says nothing of them.
abbrev pub LinesRead : Result RowsDef RowsRefusal → JobsDef → List Fields → Type 0
LinesRead (Ok rows) jobs lines =
    ((i : ℕ) → i < length lines → refusal_at jobs lines i ≡ None) × (rows ≡ rows_with jobs (runs_written jobs lines))
LinesRead (Err refusal.Memory) jobs lines = Unit {0}
LinesRead (Err r) jobs lines = (i : ℕ) × IsFirstRefused jobs lines i r

-- What the answer of reading says of the records. They are those of a file of rows, and these are its runs. Or the header is missing. Or it
-- is what is said of the lines.
abbrev pub RecordsRead : Result RowsDef RowsRefusal → JobsDef → List Fields → Type 0
RecordsRead (Ok rows) jobs records = AreRowsRecords jobs records × (rows ≡ rows_with jobs (runs_written jobs (drop 1 records)))
RecordsRead (Err refusal.Memory) jobs records = Unit {0}
RecordsRead (Err r) jobs records =
    ((r ≡ refusal.Fields 0) × (HasRowsHeader jobs.set records → ⊥))
    ⊎ (HasRowsHeader jobs.set records × ((i : ℕ) × IsFirstRefused jobs (drop 1 records) i r))

-- What it says of the text: the same as of its records.
abbrev pub RowsRead : Result RowsDef RowsRefusal → JobsDef → List ℕ → Type 0
RowsRead answer jobs bytes = RecordsRead answer jobs (records_in bytes)

-- The answer is the rows, or want of memory.
abbrev pub IsUnrefused : Result RowsDef RowsRefusal → Type 0
IsUnrefused (Ok rows) = Unit {0}
IsUnrefused (Err refusal.Memory) = Unit {0}
IsUnrefused (Err _) = ⊥
