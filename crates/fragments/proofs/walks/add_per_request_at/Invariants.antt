use Rattle.std.proofs.Common.{map, length}
use Rattle.blocking_columns.specs.ColumnDef.{column_seen}
use Rattle.fragments.specs.Constraints.{per_pair}
use Rattle.fragments.proofs.walks.add_per_request_at.Given as goal

abbrev pub invariant-loop-x : goal.invariant-loop-x
invariant-loop-x g l = g.T.RowTaker.takes l.initial.taker (map column_seen l.columns)
    (per_pair l.x (length l.set.resources) (g.R.PerRequest.row_of l.rows l.set l.i.0)) l.bounds l.taker
