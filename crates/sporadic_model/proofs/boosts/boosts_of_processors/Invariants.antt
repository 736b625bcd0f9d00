use Rattle.std.proofs.Common.{◌≡◌, map}
use Rattle.std.specs.List.{range_with_len}
use Rattle.std.specs.Option.{option_map}
use Rattle.sporadic_model.specs.Seen.{parts_seen}
use Rattle.sporadic_model.specs.Demands.{boosts_on}
use Rattle.sporadic_model.specs.declared.ids.TaskId.{TaskId}
use Rattle.sporadic_model.proofs.boosts.boosts_of_processors.Given as goal

abbrev pub invariant-loop-k : goal.invariant-loop-k
invariant-loop-k l =
    map (map (option_map (λ (x : TaskId). x.0))) (map (λ row. row.items) l.rows.items)
    ≡ map (boosts_on (parts_seen l.parts)) (range_with_len 0 l.k)
