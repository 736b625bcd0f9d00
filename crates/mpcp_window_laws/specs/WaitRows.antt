-- The rows of waits under MPCP, and the programs of its closer analysis, which have them. In each, i is the analysed task.
use Rattle.std.specs.Prelude.{ℕ, ◌*◌, ◌==◌, ◌&&◌, List, ◌++◌, length, min, unwrap_or}
use Rattle.number_laws.specs.Sums.{sum_below, only_if}
use Rattle.program_form.specs.Program.{ProgramDef}
use Rattle.sporadic_model.specs.SetDef.{SetDef}
use Rattle.sporadic_model.specs.Users.{count_of}
use Rattle.sporadic_model.specs.declared.ids.Protocol.TheVariants as protocol
use Rattle.program_sources.specs.Recurrence.{SourceDef}
use Rattle.blocking_columns.specs.declared.columns.Class.TheVariants.{Direct}
use Rattle.blocking_columns.specs.ColumnDef.{is_class}
use Rattle.blocking_columns.specs.Columns.{may_block, columns_of}
use Rattle.blocking_columns.specs.Windows.{requests_during, requests_in}
use Rattle.fragments.specs.Constraints.{ConstraintDef, counting, per, per_pair}
use Rattle.direct_constraints.specs.Rows.{common_rows, lower_holder_row}
use Rattle.indirect_constraints.specs.Rows.{is_beside}
use Rattle.program_laws.specs.Programs.{program_with, source_with, interfering_cost}
use Rattle.closer_mpcp_laws.specs.CloserMpcpRows.{further_rows}
use Rattle.mpcp_window_laws.specs.MpcpWindows.{wait_window}

-- How many requests of r by jobs of x can run within the windows of the requests of q that a job of i makes? If these have no window within
-- i's deadline, i's bound takes the window's place: no request waits longer than its job runs.
abbrev pub requests_in_windows : SetDef → (ℕ → ℕ) → ℕ → ℕ → ℕ → ℕ → ℕ
requests_in_windows set bounds i q x r =
    count_of set i q * requests_during set bounds (unwrap_or (wait_window set bounds i q) (bounds i)) x r

-- How many of them can run while the job waits for q? At most as many as x makes while the job runs, too.
abbrev pub requests_in_waits : SetDef → (ℕ → ℕ) → ℕ → ℕ → ℕ → ℕ → ℕ
requests_in_waits set bounds i q x r = min (requests_in set bounds i x r) (requests_in_windows set bounds i q x r)

-- Direct waits: x's requests of q that block a job of i directly run while it waits for q.
abbrev pub direct_wait_row : SetDef → ℕ → ℕ → ℕ → ConstraintDef
direct_wait_row set i x q = counting (λ c. ((c.task == x) && (c.resource == q)) && is_class Direct c.class)
    (λ bounds. requests_in_waits set bounds i q x q)

-- How many requests of r can higher tasks hold on x's processor while i waits for them? In each of these holdings x runs at most one request
-- that blocks i indirectly.
abbrev pub held_in_waits : SetDef → ℕ → (ℕ → ℕ) → ℕ → ℕ → ℕ
held_in_waits set i bounds x r = sum_below i (λ y. only_if (is_beside set x y) (requests_in_waits set bounds i r y r))

-- The rows of waits: one for each higher task and each resource.
abbrev pub wait_rows : SetDef → ℕ → List ConstraintDef
wait_rows set i = per_pair i (length set.resources) (direct_wait_row set i)

-- The rows of a program: requests, time and lower holders, as under MPCP; then the closer ones, in which higher tasks hold what i waits for
-- within its windows; then these. MPCP's rows of intervals and of holdings aren't there, since those of shared intervals and of shared
-- holdings say more.
abbrev pub mpcp_closer_rows : SetDef → ℕ → List ConstraintDef
mpcp_closer_rows set i = common_rows set i
    ++ (per (length set.resources) (lower_holder_row set i) ++ (further_rows set (held_in_waits set i) i ++ wait_rows set i))

-- The source of these programs for a set. Requests may block as under MPCP, and interference is counted as there.
abbrev pub mpcp_closer_source : SetDef → SourceDef
mpcp_closer_source set = source_with set (may_block protocol.Mpcp set) (mpcp_closer_rows set) (interfering_cost protocol.Mpcp set)

-- The program of task i at bounds. Contracts use this name.
abbrev pub mpcp_closer_program : SetDef → ℕ → List ℕ → ProgramDef
mpcp_closer_program set i bounds = program_with set (columns_of protocol.Mpcp set i) (mpcp_closer_rows set i) bounds
