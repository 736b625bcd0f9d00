use Rattle.std.proofs.Common.{◌+◌, map, length}
use Rattle.blocking_columns.specs.ColumnDef.{column_seen}
use Rattle.fragments.specs.Constraints.{per_pair}
use Rattle.closer_spin.specs.Together.{row_together, paired}
use Rattle.closer_spin.proofs.rows.add_pairs.Given as goal

abbrev pub invariant-loop-there : goal.invariant-loop-there
invariant-loop-there g l = g.T.RowTaker.takes l.initial.taker (map column_seen l.task.columns.now)
    (per_pair l.there-index (length l.task.set.now.resources)
    (λ k q. row_together l.task.set.now l.task.i.0 (k + 1) (paired l.pairing q))) l.task.bounds.now l.taker
