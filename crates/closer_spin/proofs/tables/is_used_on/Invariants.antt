use Rattle.std.proofs.Common.{◌≡◌, ◌==◌, false, take}
use Rattle.std.specs.List.{list_any}
use Rattle.sporadic_model.specs.SetDef.{task_at}
use Rattle.closer_spin.proofs.tables.is_used_on.Given as goal

abbrev pub invariant-loop-x : goal.invariant-loop-x
invariant-loop-x l = list_any (λ x. (task_at l.set x.0).processor == l.processor) (take l.x-index l.users) ≡ false
