use Rattle.std.proofs.Common.{◌≡◌, ◌++◌, map, drop}
use Rattle.blocking_columns.specs.ColumnDef.{column_seen}
use Rattle.program_laws.specs.Programs.{cost_of}
use Rattle.protocol_programs.proofs.parts.costs.Given as goal

abbrev pub invariant-loop-column : goal.invariant-loop-column
invariant-loop-column l = l.costs.items ++ map (cost_of l.set) (map column_seen (drop l.column-index l.columns))
    ≡ map (cost_of l.set) (map column_seen l.columns)
