use Rattle.std.proofs.Common.{◌≡◌, not, ◌==◌, map, drop}
use Rattle.std.specs.List.{find}
use Rattle.sporadic_model.specs.SetDef.{task_at}
use Rattle.sporadic_model.specs.Seen.{parts_seen}
use Rattle.sporadic_model.specs.declared.ids.TaskId.{TaskId}
use Rattle.sporadic_model.proofs.boosts.first_beyond.Given as goal

abbrev pub invariant-loop-x : goal.invariant-loop-x
invariant-loop-x l =
    find (λ y. not ((task_at (parts_seen l.parts) y).processor == l.k)) (map (λ (x : TaskId). x.0) (drop l.x-index l.users))
    ≡ find (λ y. not ((task_at (parts_seen l.parts) y).processor == l.k)) (map (λ (x : TaskId). x.0) l.users)
