use Rattle.std.proofs.Common.{◌≡◌, map}
use Rattle.std.specs.List.{range_with_len}
use Rattle.std.specs.Option.{option_map}
use Rattle.sporadic_model.specs.Seen.{parts_seen}
use Rattle.sporadic_model.specs.Users.{remote_ceiling_of}
use Rattle.sporadic_model.specs.declared.ids.TaskId.{TaskId}
use Rattle.sporadic_model.proofs.boosts.boosts_of_processor.Given as goal

abbrev pub invariant-loop-q : goal.invariant-loop-q
invariant-loop-q l =
    map (option_map (λ (x : TaskId). x.0)) l.row.items
    ≡ map (λ q. remote_ceiling_of (parts_seen l.parts) q l.k) (range_with_len 0 l.q)
