use Rattle.std.proofs.Common.{◌≡◌, ◌*◌, ◌+◌, length}
use Rattle.std.specs.List.{AllWithin}
use Rattle.blocking_columns.specs.ColumnDef.{column_seen}
use Rattle.spin_protocol.specs.Origins.{IsMarked}
use Rattle.spin_protocol.proofs.origins.origins_of.Given as goal

abbrev pub invariant-loop-place : goal.invariant-loop-place
invariant-loop-place l = record {
  room : length l.table.items ≡ length l.set.resources * 64 + 1;
  marked : AllWithin (λ c. IsMarked l.set l.table.items (column_seen c)) l.columns 0 l.place;
}
