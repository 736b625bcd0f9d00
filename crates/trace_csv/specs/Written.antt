-- The text of rows in CSV.
use Rattle.std.specs.Prelude.{◌≡◌, ◌≤◌, ℕ, ◌+◌, Bool, true, decimal, List, [], ◌∷◌, ◌++◌, map, length, Option, None, Some, if◌then◌else◌}
use Rattle.std.specs.List.{list_all}
use Rattle.csv.specs.Writing.{default_writer, row_body, row_text, is_blank, quote_mark}
use Rattle.sporadic_model.specs.SetDef.{SetDef}
use Rattle.schedule_model.specs.RowDef.{RunDef}
use Rattle.schedule_model.specs.JobDef.{JobsDef}
use Rattle.schedule_model.specs.Fitting.{RowsDef, is_sized, is_fitting}
use Rattle.schedule_model.specs.declared.limits.TheConstants.{MOST_JOBS}
use Rattle.trace_csv.specs.Records.{Fields}
use Rattle.trace_csv.specs.RowsFile.{rows_header, IsRowsFile, runs_in}

-- The cell that names a job, numbered from 1, or no job.
abbrev pub cell_of : Option ℕ → List ℕ
cell_of None = []
cell_of (Some j) = decimal (j + 1)

-- The line of a run: its ticks, for each processor the job that runs, and for each resource the job that holds it.
abbrev pub line_of : RunDef → Fields
line_of run = decimal run.ticks ∷ (map cell_of run.row.running ++ map cell_of run.row.holders)

-- The text of a record up to the end of its line. If it would have no byte, it is two quotes.
abbrev pub body_text : Fields → List ℕ
body_text fields = row_body default_writer fields ++ (if is_blank default_writer fields then quote_mark ∷ quote_mark ∷ [] else [])

-- The text of records, each ended by a line feed, as `csv` writes it.
abbrev pub text_of : List Fields → List ℕ
text_of [] = []
text_of (record_ ∷ records) = row_text default_writer record_ ++ text_of records

-- The text of runs for a task set: the header, and a line for each run.
abbrev pub rows_text : SetDef → List RunDef → List ℕ
rows_text set runs = text_of (rows_header set ∷ map line_of runs)

-- Has each row one place for each processor and each resource of the set?
abbrev pub are_sized : SetDef → List RunDef → Bool
are_sized set runs = list_all (λ run. is_sized set.processors (length set.resources) run.row) runs

-- With jobs of the set that the rows fit, the text is read as the same runs.
pub record ReadsBack (rows : RowsDef) (text : List ℕ) (jobs : JobsDef) : Type 0 where
  pub file : IsRowsFile jobs text
  pub runs : runs_in jobs text ≡ rows.runs

abbrev pub ReadsBackIfFitting : SetDef → RowsDef → List ℕ → Type 0
ReadsBackIfFitting set rows text =
    (jobs : JobsDef) → jobs.set ≡ set → length jobs.jobs ≤ MOST_JOBS → is_fitting rows jobs ≡ true → ReadsBack rows text jobs
