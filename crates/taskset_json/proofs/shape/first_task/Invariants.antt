-- The objects not yet tried have the answer of all.
use Rattle.std.proofs.Common.{◌≡◌, map, drop}
use Rattle.std.specs.List.{flat_map}
use Rattle.serde_json.specs.View.{view}
use Rattle.taskset_json.specs.FormFaults.{first_of, task_objects, counted_from}
use Rattle.taskset_json.proofs.shape.first_task.Given as goal

abbrev pub invariant-loop-x : goal.invariant-loop-x
invariant-loop-x l = first_of (flat_map task_objects (counted_from l.x (map view (drop l.x l.tasks))))
    ≡ first_of (flat_map task_objects (counted_from 0 (map view l.tasks)))
