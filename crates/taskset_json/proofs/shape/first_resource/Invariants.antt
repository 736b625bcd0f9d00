-- The objects not yet tried have the answer of all.
use Rattle.std.proofs.Common.{◌≡◌, map, drop}
use Rattle.serde_json.specs.View.{view}
use Rattle.taskset_json.specs.FormFaults.{first_of, resource_object, counted_from}
use Rattle.taskset_json.proofs.shape.first_resource.Given as goal

abbrev pub invariant-loop-q : goal.invariant-loop-q
invariant-loop-q l = first_of (map resource_object (counted_from l.q (map view (drop l.q l.resources))))
    ≡ first_of (map resource_object (counted_from 0 (map view l.resources)))
