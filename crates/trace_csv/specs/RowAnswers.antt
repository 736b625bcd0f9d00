-- What do the calls that read a line of a file of rows say?
use Rattle.std.specs.Prelude.{◌≡◌, ◌≤◌, ◌+◌, ◌++◌, ℕ, true, List, [], ◌∷◌, None, Some, Result, Ok, Err}
use Rattle.std.specs.Int.{is_in_range}
use Rattle.sporadic_model.specs.declared.limits.TheConstants.{MOST_TICKS}
use Rattle.schedule_model.specs.JobDef.{JobsDef}
use Rattle.schedule_model.specs.RowDef.{RunDef, ticks_of}
use Rattle.schedule_model.specs.Fitting.{RowsDef, IsRowList, is_sized, names_jobs}
use Rattle.schedule_model.specs.Seen.{run_seen}
use Rattle.schedule_model.specs.declared.row.RowRun.{RowRun}
use Rattle.schedule_model.specs.declared.refusal.RowRefusal.{RowRefusal}
use Rattle.schedule_model.specs.declared.refusal.RowRefusal.TheVariants as push
use Rattle.trace_csv.specs.declared.refusal.RowsRefusal.{RowsRefusal}
use Rattle.trace_csv.specs.declared.refusal.RowsRefusal.TheVariants as refusal
use Rattle.trace_csv.specs.Records.{Fields}
use Rattle.trace_csv.specs.RowLines.{cells_refusal, form_refusal, line_refusal, run_written, runs_written}
use Rattle.trace_csv.specs.RowLines.{job_count, processor_count, resource_count}
use Rattle.trace_csv.specs.LinesTaken.{Reasons}
use Rattle.trace_csv.specs.RowsFile.{HasRowsHeader, rows_header, rows_with}

-- Is it a run for the jobs? Its row has one place for each processor and each resource of their set, and names only jobs of the list. It
-- lasts from 1 to 10^9 ticks.
pub record IsRunOf (jobs : JobsDef) (run : RunDef) : Type 0 where
  pub sized : is_sized (processor_count jobs) (resource_count jobs) run.row ≡ true
  pub named : names_jobs (job_count jobs) run.row ≡ true
  pub ticks : is_in_range 1 MOST_TICKS run.ticks ≡ true

-- Either this is the run of the line. Or this is why the line is refused for what is on it.
abbrev pub CellsRead : Result RowRun RowsRefusal → JobsDef → List ℕ → List (List ℕ) → ℕ → Type 0
CellsRead (Ok run) jobs ticks cells k =
    (cells_refusal jobs ticks cells k ≡ None) × (run_seen run ≡ run_written jobs (ticks ∷ cells)) × IsRunOf jobs (run_seen run)
CellsRead (Err refusal.Memory) jobs ticks cells k = Unit {0}
CellsRead (Err r) jobs ticks cells k = cells_refusal jobs ticks cells k ≡ Some r

abbrev pub LineRead : Result RowRun RowsRefusal → JobsDef → Fields → ℕ → Type 0
LineRead (Ok run) jobs line k =
    (form_refusal jobs line k ≡ None) × (run_seen run ≡ run_written jobs line) × IsRunOf jobs (run_seen run)
LineRead (Err refusal.Memory) jobs line k = Unit {0}
LineRead (Err r) jobs line k = form_refusal jobs line k ≡ Some r

-- Was the list of rows made for these jobs?
abbrev pub IsMade : RowsDef → JobsDef → Type 0
IsMade rows jobs = rows ≡ rows_with jobs rows.runs

-- The refusal of the line of this number, for a refusal by the list of rows.
abbrev pub at_line : ℕ → RowRefusal → RowsRefusal
at_line k push.Number = refusal.Number k
at_line k push.UnknownJob = refusal.UnknownJob k
at_line k push.TooLong = refusal.TooLong k
at_line k push.Memory = refusal.Memory

-- Either the run of the line is at the end of the list. Or this is why the line is refused after those before it.
abbrev pub LineTaken : {T : Type 0} → Result T RowsRefusal → JobsDef → RowsDef → RowsDef → Fields → ℕ → Type 0
LineTaken (Ok _) jobs before after line k =
    (line_refusal jobs before.runs line k ≡ None)
    × (after ≡ rows_with jobs (before.runs ++ run_written jobs line ∷ []))
LineTaken (Err refusal.Memory) jobs before after line k = Unit {0}
LineTaken (Err r) jobs before after line k = line_refusal jobs before.runs line k ≡ Some r

-- The same if only ticks are counted: those of the lines before it, and then those of the line too.
abbrev pub LineCounted : {T : Type 0} → Result T RowsRefusal → JobsDef → List RunDef → ℕ → Fields → ℕ → Type 0
LineCounted (Ok _) jobs before ticks line k =
    (line_refusal jobs before line k ≡ None) × IsRunOf jobs (run_written jobs line)
    × (ticks ≡ ticks_of before + (run_written jobs line).ticks) × (ticks ≤ MOST_TICKS)
LineCounted (Err refusal.Memory) jobs before ticks line k = Unit {0}
LineCounted (Err r) jobs before ticks line k = line_refusal jobs before line k ≡ Some r

-- The same for any lines before it whose ticks were the first number.
abbrev pub TicksCounted : {T : Type 0} → Result T RowsRefusal → JobsDef → ℕ → ℕ → Fields → ℕ → Type 0
TicksCounted result jobs before after line k =
    (runs : List RunDef) → before ≡ ticks_of runs → LineCounted result jobs runs after line k

-- Why a line is refused after these lines.
abbrev pub row_reason : JobsDef → Reasons RowsRefusal
row_reason jobs before line k = line_refusal jobs (runs_written jobs before) line k

-- Are these the rows of the lines?
abbrev pub HasRows : JobsDef → List Fields → RowsDef → Type 0
HasRows jobs lines rows = rows ≡ rows_with jobs (runs_written jobs lines)

-- Are the rows of the lines a list of rows, and do they have this many ticks?
pub record HasTicks (jobs : JobsDef) (lines : List Fields) (ticks : ℕ) : Type 0 where
  pub listed : IsRowList (rows_with jobs (runs_written jobs lines))
  pub counted : ticks ≡ ticks_of (runs_written jobs lines)

-- Either the records begin with the header, and these come after it. Or it is missing.
abbrev pub HeaderTaken : {T : Type 0} → Result T RowsRefusal → JobsDef → List Fields → List Fields → Type 0
HeaderTaken (Ok _) jobs before after = before ≡ rows_header jobs.set ∷ after
HeaderTaken (Err refusal.Memory) jobs before after = Unit {0}
HeaderTaken (Err r) jobs before after = (r ≡ refusal.Fields 0) × (HasRowsHeader jobs.set before → ⊥)
