use Rattle.std.proofs.Common.{◌≡◌, ◌-◌, ◌++◌, length, map}
use Rattle.std.specs.List.{filter, range_with_len}
use Rattle.sporadic_model.specs.Seen.{parts_seen}
use Rattle.sporadic_model.specs.Users.{is_user, used_by}
use Rattle.sporadic_model.proofs.users.used_by_task.Given as goal

abbrev pub invariant-loop-q : goal.invariant-loop-q
invariant-loop-q l =
    map (λ q. q.0) l.used.items
    ++ filter (λ q. is_user (parts_seen l.parts) q l.x) (range_with_len l.q (length (parts_seen l.parts).resources - l.q))
    ≡ used_by (parts_seen l.parts) l.x
