use Rattle.std.proofs.Common.{◌≡◌, ◌++◌, map, drop}
use Rattle.sporadic_model.specs.Seen.{task_seen, resource_seen}
use Rattle.sporadic_model.specs.Demands.{demand_for}
use Rattle.sporadic_model.proofs.demands.demands_of_task.Given as goal

abbrev pub invariant-loop-resource : goal.invariant-loop-resource
invariant-loop-resource l =
    l.row.items ++ map (demand_for (task_seen l.task)) (map resource_seen (drop l.resource-index l.resources))
    ≡ map (demand_for (task_seen l.task)) (map resource_seen l.resources)
