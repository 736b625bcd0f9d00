use Rattle.std.proofs.Common.{◌≡◌, ◌++◌, map, drop}
use Rattle.std.specs.List.{filter, flat_map}
use Rattle.blocking_columns.specs.ColumnDef.{column_seen, classes_of}
use Rattle.blocking_columns.specs.Columns.{is_column}
use Rattle.blocking_columns.proofs.columns.add_requests_of.Given as goal

abbrev pub invariant-loop-q : goal.invariant-loop-q
invariant-loop-q l = map column_seen l.columns.items
    ++ flat_map (λ q. filter (is_column l.protocol l.set l.i.0) (classes_of l.x.0 q.0)) (drop l.q-index l.used)
    ≡ map column_seen l.initial.columns.items
    ++ flat_map (λ q. filter (is_column l.protocol l.set l.i.0) (classes_of l.x.0 q.0)) l.used
