-- The blocking program of a task under a protocol, its interfering cost, and the source of these for a set.
use Rattle.std.specs.Prelude.{ℕ, ◌+◌, Bool, List, ◌++◌, map, length, slice_index}
use Rattle.program_form.specs.Program.{ProgramDef}
use Rattle.sporadic_model.specs.SetDef.{SetDef, task_at}
use Rattle.sporadic_model.specs.Users.{length_of}
use Rattle.sporadic_model.specs.declared.ids.Protocol.{Protocol}
use Rattle.sporadic_model.specs.declared.ids.Protocol.TheVariants as protocol
use Rattle.program_sources.specs.Recurrence.{SourceDef}
use Rattle.blocking_columns.specs.declared.columns.Class.{Class}
use Rattle.blocking_columns.specs.ColumnDef.{ColumnDef}
use Rattle.blocking_columns.specs.Columns.{may_block, columns_by, columns_of}
use Rattle.fragments.specs.Constraints.{ConstraintDef, per, per_pair, rows_there}
use Rattle.direct_constraints.specs.Rows.{common_rows, turn_row, lower_holder_row}
use Rattle.preempt_constraints.specs.Rows.{preemption_rows}
use Rattle.indirect_constraints.specs.Rows.{queue_row, holding_row, home_row}

-- The rows of a protocol's own, of direct and then of indirect blocking. FMLP+ has turns and queues. MPCP has lower holders and holdings.
-- DPCP has homes, one for each processor; processors are numbered from 1.
abbrev pub protocol_rows : Protocol → SetDef → ℕ → List ConstraintDef
protocol_rows protocol.FmlpPlus set i =
    per_pair (length set.tasks) (length set.resources) (turn_row set i) ++ per (length set.tasks) (queue_row set i)
protocol_rows protocol.Mpcp set i = per (length set.resources) (lower_holder_row set i) ++ per (length set.tasks) (holding_row set i)
protocol_rows protocol.Dpcp set i = per set.processors (λ k. home_row set i (k + 1))

-- The rows of a protocol in their order: requests, time, intervals, and the protocol's own.
abbrev pub rows_of : Protocol → SetDef → ℕ → List ConstraintDef
rows_of p set i = common_rows set i ++ (preemption_rows set i ++ protocol_rows p set i)

-- The program of these columns and rows at bounds. A column is worth the length of its requests. The rows that the program has keep their
-- order. Only the limits depend on the bounds.
abbrev pub program_with : SetDef → List ColumnDef → List ConstraintDef → List ℕ → ProgramDef
program_with set columns rows bounds = record {
  costs = map (λ c. length_of set c.task c.resource) columns;
  rows = map (λ row. map row.coefficient columns) (rows_there columns rows);
  limits = map (λ row. row.limit (slice_index bounds)) (rows_there columns rows);
}

-- The source of a protocol's programs for a set. Its arguments are: which requests may block task i and how, which rows task i has, and how
-- many ticks of a job of task h count as interference.
abbrev pub source_with : SetDef → (ℕ → ℕ → ℕ → Class → Bool) → (ℕ → List ConstraintDef) → (ℕ → ℕ) → SourceDef
source_with set blocks rows interfering =
    record { set = set; program = λ i. program_with set (columns_by (blocks i) set i) (rows i); interfering = interfering }

-- How many ticks of a job of task h count as interference? Under DPCP only the local ones, since requests run on their homes. Else all.
abbrev pub interfering_cost : Protocol → SetDef → ℕ → ℕ
interfering_cost protocol.Dpcp set h = (task_at set h).local
interfering_cost _ set h = (task_at set h).cost

-- The source of the three protocols.
abbrev pub source_of : Protocol → SetDef → SourceDef
source_of p set = source_with set (may_block p set) (rows_of p set) (interfering_cost p set)

-- What a column is worth, and the program of task i at bounds. Contracts use these names.
abbrev pub cost_of : SetDef → ColumnDef → ℕ
cost_of set c = length_of set c.task c.resource

abbrev pub program_of : Protocol → SetDef → ℕ → List ℕ → ProgramDef
program_of p set i bounds = program_with set (columns_of p set i) (rows_of p set i) bounds
