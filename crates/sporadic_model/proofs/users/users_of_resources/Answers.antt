use Rattle.std.proofs.Common.{◌∙◌, map, ap}
use Rattle.std.proofs.lemmas.List.{map_push}
use Rattle.sporadic_model.specs.SetDef.{SetDef}
use Rattle.sporadic_model.specs.Seen.{parts_seen}
use Rattle.sporadic_model.specs.Users.{users_of}
use Rattle.sporadic_model.specs.declared.ids.TaskId.{TaskId}
use Rattle.sporadic_model.proofs.Filtered.{kept_more}
use Rattle.sporadic_model.proofs.users.users_of_resources.Goals as goal

pub loop-q-preserved : goal.loop-q-preserved
loop-q-preserved c =
    let set : SetDef = parts_seen c.args.parts.now in
    ap (λ l. map (map (λ (x : TaskId). x.0)) (map (λ row. row.items) l)) c.in_ok-push.ensures.items
    ∙ ap (map (map (λ (x : TaskId). x.0))) (map_push (λ row. row.items) c.loop-q.rows.items c.in_ok-users_of_resource.field-0)
    ∙ kept_more (map (λ (x : TaskId). x.0)) (users_of set) c.loop-q.q (map (λ row. row.items) c.loop-q.rows.items)
    c.in_ok-users_of_resource.field-0.items c.loop-q.invariant c.in_ok-users_of_resource.ensures
