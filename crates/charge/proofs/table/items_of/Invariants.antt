use Rattle.std.proofs.Common.{◌≡◌, ◌++◌, map}
use Rattle.charge.specs.Table.{item_seen}
use Rattle.charge.specs.Tally.{item_of}
use Rattle.charge.proofs.table.items_of.Given as goal

abbrev pub invariant-loop-place : goal.invariant-loop-place
invariant-loop-place l = map item_seen l.items.items ++ map item_of l.place-iterator ≡ map item_of l.ticks.entries
