-- Lists of rows: which runs of rows are refused, and which lists fit a list of jobs?
use Rattle.std.specs.Prelude.{◌≡◌, ℕ, ◌+◌, ◌≤◌, ◌==◌, ◌&&◌, not, Bool, true, false, nat_lt, List, [], ◌∷◌, ◌++◌, length}
use Rattle.std.specs.Prelude.{Option, None, Some, Result, Ok, Err, find}
use Rattle.std.specs.List.{list_all}
use Rattle.std.specs.Option.{option_map_or}
use Rattle.std.specs.Int.{is_in_range}
use Rattle.schedule_model.specs.JobDef.{JobsDef}
use Rattle.schedule_model.specs.RowDef.{RowDef, RunDef, ticks_of}
use Rattle.sporadic_model.specs.declared.limits.TheConstants.{MOST_TICKS}
use Rattle.schedule_model.specs.declared.refusal.RowRefusal.{RowRefusal}
use Rattle.schedule_model.specs.declared.refusal.RowRefusal.TheVariants as refusal

-- A list of runs of equal rows. The first three numbers say for how many processors, resources and jobs it was made. They bound what may be
-- pushed, and are no part of the schedule.
pub record RowsDef : Type 0 where
  pub processors : ℕ
  pub resources : ℕ
  pub jobs : ℕ
  pub runs : List RunDef

-- Are they the same rows? They are if the runs are the same, whatever the lists were made for.
abbrev pub AreSameRows : RowsDef → RowsDef → Type 0
AreSameRows a b = a.runs ≡ b.runs

-- The empty list that is made for a list of jobs.
abbrev pub rows_for : JobsDef → RowsDef
rows_for jobs = record { processors = jobs.set.processors; resources = length jobs.set.resources; jobs = length jobs.jobs; runs = [] }

-- Has the row one place for each processor and one for each resource?
abbrev pub is_sized : ℕ → ℕ → RowDef → Bool
is_sized processors resources row = (length row.running == processors) && (length row.holders == resources)

-- Does the place name a job below n, or none?
abbrev pub is_below : ℕ → Option ℕ → Bool
is_below n named = option_map_or (λ j. nat_lt j n) named true

abbrev pub names_below : ℕ → List (Option ℕ) → Bool
names_below n places = list_all (is_below n) places

-- Does the row name only jobs below n?
abbrev pub names_jobs : ℕ → RowDef → Bool
names_jobs n row = names_below n row.running && names_below n row.holders

-- Has the row these sizes, and does it name only jobs below n?
abbrev pub fits_row : ℕ → ℕ → ℕ → RowDef → Bool
fits_row processors resources n row = is_sized processors resources row && names_jobs n row

-- Is the refusal due for the run, after these rows?
abbrev pub is_due : RowsDef → RunDef → RowRefusal → Bool
is_due rows run refusal.Number = not (is_in_range 1 MOST_TICKS run.ticks)
is_due rows run refusal.UnknownJob = not (names_jobs rows.jobs run.row)
is_due rows run refusal.TooLong = nat_lt MOST_TICKS (ticks_of rows.runs + run.ticks)
is_due rows run refusal.Memory = false

-- The refusals in the order in which they are tried, and the first that is due.
abbrev pub refusals_in_order : List RowRefusal
refusals_in_order = refusal.Number ∷ refusal.UnknownJob ∷ refusal.TooLong ∷ []

abbrev pub first_refusal : RowsDef → RunDef → Option RowRefusal
first_refusal rows run = find (is_due rows run) refusals_in_order

-- The list with the run at its end.
abbrev pub with_run : RowsDef → RunDef → RowsDef
with_run rows run = record { processors = rows.processors; resources = rows.resources; jobs = rows.jobs; runs = rows.runs ++ run ∷ [] }

-- What the answer on a run says. Either the run is at the end of the list. Or it is refused for the first reason that is due, and the list
-- is as it was. Only want of memory says nothing of the run.
abbrev pub RunJudged : {T : Type 0} → Result T RowRefusal → RowsDef → RowsDef → RunDef → Type 0
RunJudged (Ok _) before after run = (first_refusal before run ≡ None) × (after ≡ with_run before run)
RunJudged (Err refusal.Memory) before after run = after ≡ before
RunJudged (Err r) before after run = (first_refusal before run ≡ Some r) × (after ≡ before)

-- Do the rows fit the jobs: has each row one place for each processor and each resource of their set, and does it name only jobs of the
-- list?
abbrev pub is_fitting : RowsDef → JobsDef → Bool
is_fitting rows jobs = list_all (λ run. fits_row jobs.set.processors (length jobs.set.resources) (length jobs.jobs) run.row) rows.runs

-- What is true of every list of rows. Each run has the list's sizes, names only its jobs, and lasts from 1 to 10^9 ticks. All runs together
-- have at most 10^9 ticks.
pub record IsRowList (rows : RowsDef) : Type 0 where
  pub sized : list_all (λ run. is_sized rows.processors rows.resources run.row) rows.runs ≡ true
  pub named : list_all (λ run. names_jobs rows.jobs run.row) rows.runs ≡ true
  pub lasting : list_all (λ run. is_in_range 1 MOST_TICKS run.ticks) rows.runs ≡ true
  pub most : ticks_of rows.runs ≤ MOST_TICKS

-- Was the list made for these jobs, or for the first of them only, before the others were listed?
pub record IsMadeFor (rows : RowsDef) (list : JobsDef) : Type 0 where
  pub processors : rows.processors ≡ list.set.processors
  pub resources : rows.resources ≡ length list.set.resources
  pub jobs : rows.jobs ≤ length list.jobs
