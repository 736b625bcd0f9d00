use Rattle.std.proofs.Common.{◌≡◌, map}
use Rattle.std.specs.List.{range_with_len}
use Rattle.sporadic_model.specs.Seen.{parts_seen}
use Rattle.sporadic_model.specs.Users.{users_of}
use Rattle.sporadic_model.specs.declared.ids.TaskId.{TaskId}
use Rattle.sporadic_model.proofs.users.users_of_resources.Given as goal

abbrev pub invariant-loop-q : goal.invariant-loop-q
invariant-loop-q l =
    map (map (λ (x : TaskId). x.0)) (map (λ row. row.items) l.rows.items)
    ≡ map (users_of (parts_seen l.parts)) (range_with_len 0 l.q)
