-- The rows of windows, which DPCP with windows has besides those of DPCP, and its programs. In each, i is the analysed task.
use Rattle.std.specs.Prelude.{ℕ, ◌*◌, ◌==◌, ◌&&◌, not, Bool, List, ◌++◌, length, min, unwrap_or, is_none}
use Rattle.number_laws.specs.Sums.{sum_below, only_if}
use Rattle.number_laws.specs.Tests.{any_below}
use Rattle.program_form.specs.Program.{ProgramDef}
use Rattle.sporadic_model.specs.SetDef.{SetDef}
use Rattle.sporadic_model.specs.Users.{count_of, is_user}
use Rattle.sporadic_model.specs.Homes.{home_in}
use Rattle.sporadic_model.specs.declared.ids.Protocol.TheVariants as protocol
use Rattle.program_sources.specs.Recurrence.{SourceDef}
use Rattle.blocking_columns.specs.declared.columns.Class.TheVariants.{Preemption}
use Rattle.blocking_columns.specs.ColumnDef.{is_class}
use Rattle.blocking_columns.specs.Columns.{may_block, columns_of}
use Rattle.blocking_columns.specs.Windows.{requests_during}
use Rattle.fragments.specs.Constraints.{ConstraintDef, counting, per_pair}
use Rattle.program_laws.specs.Programs.{program_with, source_with, rows_of, interfering_cost}
use Rattle.window_laws.specs.Windows.{window_of}

-- Does task i request resource q, and is the home of q that of r? Then requests of r can hold up i's requests of q.
abbrev pub meets_there : SetDef → ℕ → ℕ → ℕ → Bool
meets_there set i r q = is_user set q i && (home_in set q == home_in set r)

-- How many requests of r by jobs of task x can run within the windows of the requests that a job of i makes at r's home? If a request has
-- no window within i's deadline, i's bound takes the window's place: no request lasts longer than its job.
abbrev pub requests_met : SetDef → (ℕ → ℕ) → ℕ → ℕ → ℕ → ℕ
requests_met set bounds i x r = sum_below (length set.resources) (λ q. only_if (meets_there set i r q)
    (count_of set i q * requests_during set bounds (unwrap_or (window_of set bounds i q) (bounds i)) x r))

-- Windows: take the requests of r by the higher task x that a job of i waits for, directly or indirectly. They run within the windows of
-- the job's requests at r's home. So they are at most as many as can run within these windows, and at most as many as x makes while the job
-- runs.
abbrev pub window_row : SetDef → ℕ → ℕ → ℕ → ConstraintDef
window_row set i x r = counting (λ c. ((c.task == x) && (c.resource == r)) && not (is_class Preemption c.class))
    (λ bounds. min (requests_during set bounds (bounds i) x r) (requests_met set bounds i x r))

-- The rows of a program: those of DPCP, then those of windows, one for each higher task and each resource.
abbrev pub windowed_rows : SetDef → ℕ → List ConstraintDef
windowed_rows set i = rows_of protocol.Dpcp set i ++ per_pair i (length set.resources) (window_row set i)

-- The source of these programs for a set. Requests may block as under DPCP, and interference is counted as there.
abbrev pub windowed_source : SetDef → SourceDef
windowed_source set = source_with set (may_block protocol.Dpcp set) (windowed_rows set) (interfering_cost protocol.Dpcp set)

-- The rows of windows; the requests that run within the window of one request of q by i; and the program of task i at bounds. Contracts use
-- these names.
abbrev pub window_rows : SetDef → ℕ → List ConstraintDef
window_rows set i = per_pair i (length set.resources) (window_row set i)

abbrev pub requests_there : SetDef → (ℕ → ℕ) → ℕ → ℕ → ℕ → ℕ → ℕ
requests_there set bounds i x r q = requests_during set bounds (unwrap_or (window_of set bounds i q) (bounds i)) x r

abbrev pub windowed_program : SetDef → ℕ → List ℕ → ProgramDef
windowed_program set i bounds = program_with set (columns_of protocol.Dpcp set i) (windowed_rows set i) bounds

-- Does some resource of r's home that i requests have no window? Then the row's limit is what x makes while the job runs.
abbrev pub lacks_window : SetDef → (ℕ → ℕ) → ℕ → ℕ → Bool
lacks_window set bounds i r =
    any_below (length set.resources) (λ q. meets_there set i r q && is_none (window_of set bounds i q))
