use Rattle.std.proofs.Common.{◌∙◌, map, ap, arith}
use Rattle.std.specs.Option.{option_map}
use Rattle.std.proofs.lemmas.List.{map_push}
use Rattle.sporadic_model.specs.SetDef.{SetDef}
use Rattle.sporadic_model.specs.Seen.{parts_seen}
use Rattle.sporadic_model.specs.Accepted.{SetSizes}
use Rattle.sporadic_model.specs.Demands.{boosts_on}
use Rattle.sporadic_model.specs.declared.ids.TaskId.{TaskId}
use Rattle.sporadic_model.proofs.Filtered.{kept_more}
use Rattle.sporadic_model.proofs.Laws.{sizes_of_accepted}
use Rattle.sporadic_model.proofs.boosts.boosts_of_processors.Goals as goal

pub overflow_add-count : goal.overflow_add-count
overflow_add-count c =
    let sizes : SetSizes (parts_seen c.args.parts.now) = sizes_of_accepted _ c.requires.accepted in
    omega arith

pub loop-k-preserved : goal.loop-k-preserved
loop-k-preserved c =
    let set : SetDef = parts_seen c.args.parts.now in
    ap (λ l. map (map (option_map (λ (x : TaskId). x.0))) (map (λ row. row.items) l)) c.in_ok-push.ensures.items
    ∙ ap (map (map (option_map (λ (x : TaskId). x.0))))
    (map_push (λ row. row.items) c.loop-k.rows.items c.in_ok-boosts_of_processor.field-0)
    ∙ kept_more (map (option_map (λ (x : TaskId). x.0))) (boosts_on set) c.loop-k.k (map (λ row. row.items) c.loop-k.rows.items)
    c.in_ok-boosts_of_processor.field-0.items c.loop-k.invariant c.in_ok-boosts_of_processor.ensures
