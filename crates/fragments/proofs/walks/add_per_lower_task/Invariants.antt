use Rattle.std.proofs.Common.{map}
use Rattle.number_laws.specs.Sums.{collect_below}
use Rattle.blocking_columns.specs.ColumnDef.{column_seen}
use Rattle.fragments.proofs.walks.add_per_lower_task.Given as goal

abbrev pub invariant-loop-x : goal.invariant-loop-x
invariant-loop-x g l = g.T.RowTaker.takes l.initial.taker (map column_seen l.columns)
    (collect_below l.x (g.R.PerTask.rows_of l.rows l.set l.i.0)) l.bounds l.taker
