use Rattle.std.proofs.Common.{map}
use Rattle.blocking_columns.specs.ColumnDef.{column_seen}
use Rattle.fragments.specs.Constraints.{per}
use Rattle.closer_spin.specs.Together.{row_together, paired}
use Rattle.closer_spin.proofs.rows.add_pairs_there.Given as goal

abbrev pub invariant-loop-q : goal.invariant-loop-q
invariant-loop-q g l = g.T.RowTaker.takes l.initial.taker (map column_seen l.task.columns.now)
    (per l.q (λ q. row_together l.task.set.now l.task.i.0 l.there.processor (paired l.pairing q))) l.task.bounds.now l.taker
