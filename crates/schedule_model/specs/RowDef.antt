-- Schedules: what runs and what is held at each tick.
use Rattle.std.specs.Prelude.{◌≡◌, refl, ℕ, zero, suc, ◌-◌, ◌==◌, Bool, false, nat_lt, if◌then◌else◌, List, [], ◌∷◌}
use Rattle.std.specs.Prelude.{Option, None, slice_index_or, sum_by}
use Rattle.std.specs.Option.{option_map_or}
use Rattle.std.specs.List.{list_any}
use Rattle.sporadic_model.specs.SetDef.{SetDef}
use Rattle.schedule_model.specs.JobDef.{JobDef, JobsDef}

-- One tick of a schedule: for each processor the job that runs there, and for each resource the job that holds it.
pub record RowDef : Type 0 where
  pub running : List (Option ℕ)
  pub holders : List (Option ℕ)

-- A row and how many ticks on end it lasts.
pub record RunDef : Type 0 where
  pub ticks : ℕ
  pub row : RowDef

-- A row in which nothing runs and nothing is held.
abbrev pub idle_row : RowDef
idle_row = record { running = []; holders = [] }

-- Which row does a list of runs have at tick t? Past its end it is one in which nothing happens.
abbrev pub row_in : List RunDef → ℕ → RowDef
row_in [] t = idle_row
row_in (run ∷ runs) t = if nat_lt t run.ticks then run.row else row_in runs (t - run.ticks)

-- How many ticks does a list of runs have?
abbrev pub ticks_of : List RunDef → ℕ
ticks_of runs = sum_by (λ run. run.ticks) runs

-- Which row does a list of rows have at tick t? Past its end it is one in which nothing happens.
abbrev pub row_at : List RowDef → ℕ → RowDef
row_at rows t = slice_index_or rows t idle_row

-- Is it job j that is named?
abbrev pub is_job : ℕ → Option ℕ → Bool
is_job j named = option_map_or (λ i. i == j) named false

-- Which job runs on processor k? Processors are numbered from 1.
abbrev pub running_on : RowDef → ℕ → Option ℕ
running_on row zero = None
running_on row (suc c) = slice_index_or row.running c None

-- Which job holds resource q?
abbrev pub holder_in : RowDef → ℕ → Option ℕ
holder_in row q = slice_index_or row.holders q None

-- Does job j run in the row, on some processor?
unfoldable pub runs_in : RowDef → ℕ → Bool
runs_in row j = list_any (is_job j) row.running

-- A task set, jobs of its tasks, and the row at each tick. The definitions of this model are about a trace. What they say of tick t depends
-- only on the rows up to t.
pub record Trace : Type 0 where
  pub set : SetDef
  pub jobs : List JobDef
  pub row : ℕ → RowDef

-- The jobs of a trace as a list of jobs.
abbrev pub jobs_of : Trace → JobsDef
jobs_of w = record { set = w.set; jobs = w.jobs }

-- The trace of a list of jobs and a list of rows, or a list of runs.
abbrev pub trace_of : JobsDef → List RowDef → Trace
trace_of jobs rows = record { set = jobs.set; jobs = jobs.jobs; row = row_at rows }

abbrev pub trace_in : JobsDef → List RunDef → Trace
trace_in jobs runs = record { set = jobs.set; jobs = jobs.jobs; row = row_in runs }

pub jobs_of_rows : (jobs : JobsDef) (rows : List RowDef) → jobs_of (trace_of jobs rows) ≡ jobs
jobs_of_rows jobs rows = refl

-- Which job holds resource q in the row before tick t? None at tick 0.
abbrev pub held_before : Trace → ℕ → ℕ → Option ℕ
held_before w zero q = None
held_before w (suc u) q = holder_in (w.row u) q
