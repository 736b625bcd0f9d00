-- The objects not yet tried have the answer of all.
use Rattle.std.proofs.Common.{◌≡◌, map, drop}
use Rattle.serde_json.specs.View.{view}
use Rattle.taskset_json.specs.FormFaults.{first_of, request_object, counted_from}
use Rattle.taskset_json.proofs.shape.first_request.Given as goal

abbrev pub invariant-loop-j : goal.invariant-loop-j
invariant-loop-j l = first_of (map (request_object l.fn.task) (counted_from l.j (map view (drop l.j l.requests))))
    ≡ first_of (map (request_object l.fn.task) (counted_from 0 (map view l.requests)))
