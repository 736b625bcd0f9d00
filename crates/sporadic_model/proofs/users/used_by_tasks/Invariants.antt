use Rattle.std.proofs.Common.{◌≡◌, map}
use Rattle.std.specs.List.{range_with_len}
use Rattle.sporadic_model.specs.Seen.{parts_seen}
use Rattle.sporadic_model.specs.Users.{used_by}
use Rattle.sporadic_model.specs.declared.ids.ResourceId.{ResourceId}
use Rattle.sporadic_model.proofs.users.used_by_tasks.Given as goal

abbrev pub invariant-loop-x : goal.invariant-loop-x
invariant-loop-x l =
    map (map (λ (q : ResourceId). q.0)) (map (λ row. row.items) l.rows.items)
    ≡ map (used_by (parts_seen l.parts)) (range_with_len 0 l.x)
