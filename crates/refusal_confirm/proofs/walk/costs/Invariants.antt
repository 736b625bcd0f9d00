use Rattle.std.proofs.Common.{◌≡◌, ◌++◌, map, drop}
use Rattle.sporadic_model.specs.SetDef.{TaskDef}
use Rattle.refusal_confirm.proofs.walk.costs.Given as goal

-- the costs so far, and those of the tasks that are left, are all costs
abbrev pub invariant-loop-i : goal.invariant-loop-i
invariant-loop-i l = l.costs.items ++ map (λ (t : TaskDef). t.cost) (drop l.i l.set.tasks) ≡ map (λ (t : TaskDef). t.cost) l.set.tasks
