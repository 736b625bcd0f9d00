use Rattle.std.proofs.Common.{◌≡◌, ◌++◌, map, drop}
use Rattle.sporadic_model.specs.Seen.{resource_seen}
use Rattle.worked_sets.specs.Rows.{resources_from}
use Rattle.worked_sets.proofs.building.resources_of.Given as goal

abbrev pub invariant-loop-number : goal.invariant-loop-number
invariant-loop-number l =
    map resource_seen l.resources.items ++ resources_from l.number-counter (drop l.number-counter l.homes) ≡ resources_from 0 l.homes
