use Rattle.std.proofs.Common.{map}
use Rattle.blocking_columns.specs.ColumnDef.{column_seen}
use Rattle.fragments.specs.Constraints.{per}
use Rattle.closer_spin_laws.specs.CloserSpinRows.{closer_spinning_row}
use Rattle.closer_spin.proofs.rows.add_closer_there.Given as goal

abbrev pub invariant-loop-q : goal.invariant-loop-q
invariant-loop-q g l = g.T.RowTaker.takes l.initial.taker (map column_seen l.task.columns.now)
    (per l.q (closer_spinning_row l.task.set.now l.task.i.0 l.there.processor)) l.task.bounds.now l.taker
