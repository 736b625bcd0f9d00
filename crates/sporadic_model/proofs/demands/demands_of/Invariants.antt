use Rattle.std.proofs.Common.{◌≡◌, ◌++◌, map, drop}
use Rattle.sporadic_model.specs.Seen.{parts_seen, task_seen}
use Rattle.sporadic_model.specs.Demands.{demand_for, demands_in}
use Rattle.sporadic_model.proofs.demands.demands_of.Given as goal

abbrev pub invariant-loop-task : goal.invariant-loop-task
invariant-loop-task l =
    map (λ row. row.items) l.rows.items
    ++ map (λ task. map (demand_for task) (parts_seen l.parts).resources) (map task_seen (drop l.task-index l.parts.tasks.items))
    ≡ demands_in (parts_seen l.parts)
