-- Lines of a file of rows: the run of equal rows of a line, and when the line is refused.
use Rattle.std.specs.Prelude.{ℕ, ◌+◌, ◌-◌, ◌==◌, ◌||◌, not, Bool, nat_lt, List, [], ◌∷◌, map, take, drop, length}
use Rattle.std.specs.Prelude.{Option, None, Some, option_map, is_some, is_none, unwrap_or, if◌then◌else◌}
use Rattle.std.specs.List.{list_all}
use Rattle.sporadic_model.specs.declared.limits.TheConstants.{MOST_TICKS}
use Rattle.schedule_model.specs.JobDef.{JobsDef}
use Rattle.schedule_model.specs.RowDef.{RowDef, RunDef, ticks_of, idle_row}
use Rattle.trace_csv.specs.declared.refusal.RowsRefusal.{RowsRefusal}
use Rattle.trace_csv.specs.declared.refusal.RowsRefusal.TheVariants as refusal
use Rattle.text_pieces.specs.Numbers.{is_number, number_between}
use Rattle.trace_csv.specs.Records.{Fields, line_at}

-- The number of ticks of a field: from 1 to 10^9.
abbrev pub ticks_in : List ℕ → Option ℕ
ticks_in field = number_between 1 MOST_TICKS field

-- Has the cell the form of one: is it empty, or a number?
abbrev pub is_cell : List ℕ → Bool
is_cell cell = (length cell == 0) || is_number cell

-- The job that a cell names among the first n. They are numbered from 1, and an empty cell names none.
abbrev pub job_in : ℕ → List ℕ → Option ℕ
job_in n cell = option_map (λ number. number - 1) (number_between 1 n cell)

-- Is the cell empty, or does it name one of the first n jobs?
abbrev pub is_listed : ℕ → List ℕ → Bool
is_listed n cell = (length cell == 0) || is_some (job_in n cell)

-- How many jobs are there, and how many processors and resources has their set?
abbrev pub job_count : JobsDef → ℕ
job_count jobs = length jobs.jobs

abbrev pub processor_count : JobsDef → ℕ
processor_count jobs = jobs.set.processors

abbrev pub resource_count : JobsDef → ℕ
resource_count jobs = length jobs.set.resources

-- The row of these cells: for each processor the job that runs, and then for each resource the job that holds it.
abbrev pub row_of_cells : ℕ → ℕ → List (List ℕ) → RowDef
row_of_cells processors n cells =
    record { running = map (job_in n) (take processors cells); holders = map (job_in n) (drop processors cells) }

abbrev pub row_written : JobsDef → List (List ℕ) → RowDef
row_written jobs cells = row_of_cells (processor_count jobs) (job_count jobs) cells

-- The run of a line: its number of ticks, and its row.
abbrev pub run_written : JobsDef → Fields → RunDef
run_written jobs [] = record { ticks = 0; row = idle_row }
run_written jobs (ticks ∷ cells) = record { ticks = unwrap_or (ticks_in ticks) 0; row = row_written jobs cells }

abbrev pub runs_written : JobsDef → List Fields → List RunDef
runs_written jobs lines = map (run_written jobs) lines

-- Why line number k is refused for what is on it, if it is. The reasons are tried in this order.
abbrev pub cells_refusal : JobsDef → List ℕ → List (List ℕ) → ℕ → Option RowsRefusal
cells_refusal jobs ticks cells k =
    if not (length cells == processor_count jobs + resource_count jobs) then Some (refusal.Fields k)
    else if is_none (ticks_in ticks) then Some (refusal.Number k)
    else if not (list_all is_cell cells) then Some (refusal.Number k)
    else if not (list_all (is_listed (job_count jobs)) cells) then Some (refusal.UnknownJob k)
    else None

abbrev pub form_refusal : JobsDef → Fields → ℕ → Option RowsRefusal
form_refusal jobs [] k = Some (refusal.Fields k)
form_refusal jobs (ticks ∷ cells) k = cells_refusal jobs ticks cells k

-- Why a line is refused after these runs, if it is: for what is on it, or since all runs with its own would last more than 10^9 ticks.
abbrev pub length_refusal : List RunDef → RunDef → ℕ → Option RowsRefusal
length_refusal before run k = if nat_lt MOST_TICKS (ticks_of before + run.ticks) then Some (refusal.TooLong k) else None

abbrev pub line_refusal : JobsDef → List RunDef → Fields → ℕ → Option RowsRefusal
line_refusal jobs before line k =
    if is_some (form_refusal jobs line k) then form_refusal jobs line k
    else length_refusal before (run_written jobs line) k

-- Why line i is refused after the lines before it, if it is. Here lines are counted from 0, and their numbers from 1.
abbrev pub refusal_at : JobsDef → List Fields → ℕ → Option RowsRefusal
refusal_at jobs lines i = line_refusal jobs (runs_written jobs (take i lines)) (line_at lines i) (i + 1)
