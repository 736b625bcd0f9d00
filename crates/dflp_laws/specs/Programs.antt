-- The blocking programs of the distributed FIFO protocol. In each, i is the analysed task.
use Rattle.std.specs.Prelude.{ℕ, ◌+◌, ◌==◌, ◌&&◌, not, Bool, List, ◌++◌, length}
use Rattle.program_form.specs.Program.{ProgramDef}
use Rattle.program_sources.specs.Recurrence.{SourceDef}
use Rattle.sporadic_model.specs.SetDef.{SetDef}
use Rattle.sporadic_model.specs.Homes.{home_in}
use Rattle.sporadic_model.specs.declared.ids.Protocol.TheVariants as protocol
use Rattle.blocking_columns.specs.declared.columns.Class.TheVariants.{Preemption}
use Rattle.blocking_columns.specs.ColumnDef.{ColumnDef, is_class}
use Rattle.blocking_columns.specs.Columns.{blocks_at_home, is_column_by, columns_by}
use Rattle.blocking_columns.specs.Windows.{requests_at}
use Rattle.fragments.specs.Constraints.{ConstraintDef, counting, per_pair}
use Rattle.direct_constraints.specs.Rows.{common_rows, turn_row}
use Rattle.preempt_constraints.specs.Rows.{preemption_rows}
use Rattle.program_laws.specs.Programs.{program_with, source_with, interfering_cost}

-- Queues at homes: each request of i that runs on processor k waits for at most one request of x there, of any resource.
abbrev pub home_queue_row : SetDef → ℕ → ℕ → ℕ → ConstraintDef
home_queue_row set i x k = counting
    (λ c. ((c.task == x) && not (is_class Preemption c.class)) && (home_in set c.resource == k)) (λ bounds. requests_at set i k)

-- Requests, time, intervals, turns, and queues at homes. The last are for each task and each processor; processors are numbered from 1.
abbrev pub dflp_rows : SetDef → ℕ → List ConstraintDef
dflp_rows set i = common_rows set i ++ (preemption_rows set i
    ++ (per_pair (length set.tasks) (length set.resources) (turn_row set i)
    ++ per_pair (length set.tasks) set.processors (λ x k. home_queue_row set i x (k + 1))))

-- Requests of q may block i as under DPCP, but no ceiling rules out those of a lower task. Jobs interfere as under DPCP.
abbrev pub dflp_source : SetDef → SourceDef
dflp_source set = source_with set (λ i x. blocks_at_home set i) (dflp_rows set) (interfering_cost protocol.Dpcp set)

-- Its columns, and the program of task i at bounds. Contracts use these names.
abbrev pub is_dflp_column : SetDef → ℕ → ColumnDef → Bool
is_dflp_column set i = is_column_by (λ x. blocks_at_home set i) set i

abbrev pub dflp_columns : SetDef → ℕ → List ColumnDef
dflp_columns set i = columns_by (λ x. blocks_at_home set i) set i

abbrev pub dflp_program : SetDef → ℕ → List ℕ → ProgramDef
dflp_program set i bounds = program_with set (dflp_columns set i) (dflp_rows set i) bounds
