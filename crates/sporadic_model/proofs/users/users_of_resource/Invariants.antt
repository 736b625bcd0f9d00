use Rattle.std.proofs.Common.{◌≡◌, ◌-◌, ◌++◌, length, map}
use Rattle.std.specs.List.{filter, range_with_len}
use Rattle.sporadic_model.specs.Seen.{parts_seen}
use Rattle.sporadic_model.specs.Users.{is_user, users_of}
use Rattle.sporadic_model.proofs.users.users_of_resource.Given as goal

abbrev pub invariant-loop-x : goal.invariant-loop-x
invariant-loop-x l =
    map (λ x. x.0) l.users.items
    ++ filter (is_user (parts_seen l.parts) l.q) (range_with_len l.x (length (parts_seen l.parts).tasks - l.x))
    ≡ users_of (parts_seen l.parts) l.q
