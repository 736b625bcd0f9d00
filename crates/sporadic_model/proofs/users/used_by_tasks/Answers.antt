use Rattle.std.proofs.Common.{◌∙◌, map, ap}
use Rattle.std.proofs.lemmas.List.{map_push}
use Rattle.sporadic_model.specs.SetDef.{SetDef}
use Rattle.sporadic_model.specs.Seen.{parts_seen}
use Rattle.sporadic_model.specs.Users.{used_by}
use Rattle.sporadic_model.specs.declared.ids.ResourceId.{ResourceId}
use Rattle.sporadic_model.proofs.Filtered.{kept_more}
use Rattle.sporadic_model.proofs.users.used_by_tasks.Goals as goal

pub loop-x-preserved : goal.loop-x-preserved
loop-x-preserved c =
    let set : SetDef = parts_seen c.args.parts.now in
    ap (λ l. map (map (λ (q : ResourceId). q.0)) (map (λ row. row.items) l)) c.in_ok-push.ensures.items
    ∙ ap (map (map (λ (q : ResourceId). q.0))) (map_push (λ row. row.items) c.loop-x.rows.items c.in_ok-used_by_task.field-0)
    ∙ kept_more (map (λ (q : ResourceId). q.0)) (used_by set) c.loop-x.x (map (λ row. row.items) c.loop-x.rows.items)
    c.in_ok-used_by_task.field-0.items c.loop-x.invariant c.in_ok-used_by_task.ensures
