use Rattle.std.proofs.Common.{◌≡◌, map, length}
use Rattle.std.specs.List.{filter}
use Rattle.number_laws.specs.Sums.{collect_below}
use Rattle.blocking_columns.specs.ColumnDef.{column_seen, classes_of}
use Rattle.blocking_columns.specs.Columns.{is_column}
use Rattle.blocking_columns.proofs.columns.shared_fragments.Given as goal

abbrev pub invariant-loop-x : goal.invariant-loop-x
invariant-loop-x l = map column_seen l.columns.items ≡ filter (is_column l.protocol l.set l.i.0)
    (collect_below l.x (λ x. collect_below (length l.set.resources) (λ q. classes_of x q)))
