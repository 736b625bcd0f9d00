use Rattle.std.proofs.Common.{◌+◌, map}
use Rattle.blocking_columns.specs.ColumnDef.{column_seen}
use Rattle.fragments.specs.Constraints.{per}
use Rattle.closer_spin.specs.Together.{row_together}
use Rattle.closer_spin.proofs.rows.add_groups.Given as goal

abbrev pub invariant-loop-there : goal.invariant-loop-there
invariant-loop-there g l = g.T.RowTaker.takes l.initial.taker (map column_seen l.task.columns.now)
    (per l.there-index (λ k. row_together l.task.set.now l.task.i.0 (k + 1) l.group)) l.task.bounds.now l.taker
