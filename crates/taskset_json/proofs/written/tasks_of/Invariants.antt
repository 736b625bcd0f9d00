-- What is read, and then what the rest writes, is all.
use Rattle.std.proofs.Common.{◌≡◌, ◌++◌, map, drop}
use Rattle.serde_json.specs.View.{view}
use Rattle.sporadic_model.specs.Seen.{task_seen}
use Rattle.taskset_json.specs.Written.{task_written}
use Rattle.taskset_json.proofs.written.tasks_of.Given as goal

abbrev pub invariant-loop-value : goal.invariant-loop-value
invariant-loop-value l = map task_seen l.tasks.items ++ map task_written (map view (drop l.value-index l.values))
    ≡ map task_written (map view l.values)
