-- The rules of a row under DPCP as tests of a machine's state, the next row, and two tables. For each processor these have the first task
-- that waits there, and the least ceiling that is kept there.
use Rattle.std.specs.Prelude.{ℕ, ◌&&◌, ◌||◌, not, Bool, nat_le, nat_lt, if◌then◌else◌, List, length}
use Rattle.std.specs.Prelude.{Option, None, Some, is_some}
use Rattle.number_laws.specs.Tests.{all_below}
use Rattle.schedule_model.specs.RowDef.{RowDef, running_on, holder_in}
use Rattle.schedule_model.specs.declared.rule.Rule.{Rule}
use Rattle.phase_machine.specs.MachineDef.{MachineDef, task_in}
use Rattle.phase_machine.specs.Now.{waiting_now, is_local_now, holds_now}
use Rattle.shared_rules.specs.RowTests.{each_stands, each_current, passes_keep, holder_passes, first_of}
use Rattle.dpcp_rules.specs.Homes.{column_now, entry_at}
use Rattle.dpcp_rules.specs.TaskOrder.{task_now}

-- Run: is the job that runs in each column active, Local or the holder of the resource that it requests, and in its column?
abbrev pub passes_run : MachineDef → RowDef → Bool
passes_run m row = each_stands m (column_now m) row

-- Grant: take job j, which waits. Is its task the first of those that wait at its processor, and higher than every ceiling that is kept
-- there?
abbrev pub is_due : MachineDef → List ℕ → List ℕ → ℕ → Bool
is_due m first bars j =
    nat_le (task_in m.list.jobs j) (entry_at first (column_now m j)) && nat_lt (task_in m.list.jobs j) (entry_at bars (column_now m j))

-- If job j waits, does it hold the resource that it requests exactly if it is due?
abbrev pub request_passes : MachineDef → List ℕ → List ℕ → RowDef → ℕ → Bool
request_passes m first bars row j =
    not (waiting_now m j) || (if is_due m first bars j then holds_now m (holder_in row) j else not (holds_now m (holder_in row) j))

unfoldable pub passes_grant : MachineDef → List ℕ → List ℕ → RowDef → Bool
passes_grant m first bars row =
    all_below (length m.list.set.resources) (holder_passes m row) && each_current m (request_passes m first bars row)

-- Idle: does something run where job j would run?
abbrev pub idle_passes : MachineDef → RowDef → ℕ → Bool
idle_passes m row j = is_some (running_on row (column_now m j))

unfoldable pub passes_idle : MachineDef → RowDef → Bool
passes_idle m row = each_current m (idle_passes m row)

-- Has the first job a number no greater than that of the second?
abbrev pub is_no_later : (ℕ → ℕ) → ℕ → ℕ → Bool
is_no_later rank r j = nat_le (rank r) (rank j)

-- Priority, if holders run by these numbers: does what runs where job j would run go no later than j? A Local job goes after requests, and
-- after Local jobs of higher tasks. A request gives way only to holders, and a holder only to holders that go first.
abbrev pub goes_first : MachineDef → (ℕ → ℕ) → RowDef → ℕ → Option ℕ → Bool
goes_first m rank row j None = is_local_now m j
goes_first m rank row j (Some r) =
    if is_local_now m j then not (is_local_now m r) || is_no_later (task_in m.list.jobs) r j
    else holds_now m (holder_in row) r && (not (holds_now m (holder_in row) j) || is_no_later rank r j)

abbrev pub priority_passes : MachineDef → (ℕ → ℕ) → RowDef → ℕ → Bool
priority_passes m rank row j = goes_first m rank row j (running_on row (column_now m j))

unfoldable pub passes_priority : MachineDef → (ℕ → ℕ) → RowDef → Bool
passes_priority m rank row = each_current m (priority_passes m rank row)

-- The first rule whose test fails.
abbrev pub first_failed : MachineDef → List ℕ → List ℕ → RowDef → Option Rule
first_failed m first bars row =
    first_of (passes_run m row) (passes_keep m row) (passes_grant m first bars row) (passes_idle m row)
    (passes_priority m (task_now m) row)
