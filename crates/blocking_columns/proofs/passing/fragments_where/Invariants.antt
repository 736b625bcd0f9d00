use Rattle.std.proofs.Common.{◌≡◌, map, length}
use Rattle.std.specs.List.{filter}
use Rattle.number_laws.specs.Sums.{collect_below}
use Rattle.blocking_columns.specs.ColumnDef.{column_seen, classes_of}
use Rattle.blocking_columns.proofs.passing.fragments_where.Given as goal

abbrev pub invariant-loop-x : goal.invariant-loop-x
invariant-loop-x g l = map column_seen l.columns.items ≡ filter (g.T.ColumnTest.passes l.test l.set l.i.0)
    (collect_below l.x (λ x. collect_below (length l.set.resources) (λ q. classes_of x q)))
