-- What do a text of rows and its reader say?
use Rattle.std.specs.Prelude.{◌≡◌, ◌≤◌, ℕ, List, length, drop, option_map, slice_get, Option, Some, Result, Ok, Err}
use Rattle.std.specs.declared.vec.Vec.{Vec}
use Rattle.std.specs.Global.{Global}
use Rattle.schedule_model.specs.JobDef.{JobsDef}
use Rattle.schedule_model.specs.RowDef.{ticks_of}
use Rattle.schedule_model.specs.Fitting.{RowsDef, IsRowList}
use Rattle.schedule_model.specs.Seen.{run_seen}
use Rattle.schedule_model.specs.declared.row.RowRun.{RowRun}
use Rattle.trace_csv.specs.declared.refusal.RowsRefusal.{RowsRefusal}
use Rattle.trace_csv.specs.Records.{Fields, fields_seen}
use Rattle.trace_csv.specs.RowLines.{run_written}
use Rattle.trace_csv.specs.RowsFile.{IsRowsFile, RowsRead, runs_in, rows_with}

-- The rows of a text for the jobs.
abbrev pub rows_in : JobsDef → List ℕ → RowsDef
rows_in jobs bytes = rows_with jobs (runs_in jobs bytes)

-- What a contract sees of a reader: its rows, and the number of its run.
pub record ReaderDef : Type 0 where
  pub rows : RowsDef
  pub at : ℕ

-- Is the text a file of rows, and are these a list of rows?
pub record AreRowsIn (jobs : JobsDef) (bytes : List ℕ) : Type 0 where
  pub file : IsRowsFile jobs bytes
  pub listed : IsRowList (rows_in jobs bytes)

-- Either the text is a file of rows, which are a list of rows and have this many ticks. Or this is why it is refused.
abbrev pub TextJudged : Result ℕ RowsRefusal → JobsDef → List ℕ → Type 0
TextJudged (Ok ticks) jobs bytes =
    IsRowsFile jobs bytes × IsRowList (rows_in jobs bytes) × (ticks ≡ ticks_of (runs_in jobs bytes))
TextJudged (Err r) jobs bytes = RowsRead (Err r) jobs bytes

-- Has the next line no more fields than the most, if there is one?
abbrev pub IsNextShort : List Fields → ℕ → Type 0
IsNextShort lines most = (line : Fields) → slice_get lines 0 ≡ Some line → length line ≤ most

-- The fields of the next line, if there is one, and the lines after it.
abbrev pub IsNextLine : Option (Vec (Vec ℕ Global) Global) → List Fields → List Fields → Type 0
IsNextLine found before after =
    (option_map (λ fields. fields_seen fields.items) found ≡ slice_get before 0) × (after ≡ drop 1 before)

-- The run of that line.
abbrev pub IsNextRun : Option RowRun → JobsDef → List Fields → List Fields → Type 0
IsNextRun found jobs before after =
    (option_map run_seen found ≡ option_map (run_written jobs) (slice_get before 0)) × (after ≡ drop 1 before)
