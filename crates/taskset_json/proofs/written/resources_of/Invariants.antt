-- What is read, and then what the rest writes, is all.
use Rattle.std.proofs.Common.{◌≡◌, ◌++◌, map, drop}
use Rattle.serde_json.specs.View.{view}
use Rattle.sporadic_model.specs.Seen.{resource_seen}
use Rattle.taskset_json.specs.Written.{resource_written}
use Rattle.taskset_json.proofs.written.resources_of.Given as goal

abbrev pub invariant-loop-value : goal.invariant-loop-value
invariant-loop-value l = map resource_seen l.resources.items
    ++ map resource_written (map view (drop l.value-index l.values)) ≡ map resource_written (map view l.values)
