use Rattle.std.proofs.Common.{◌≡◌, ◌∙◌, ◌<◌, length, sym, arith, ap, refl}
use Rattle.std.proofs.lemmas.List.{length-map}
use Rattle.sporadic_model.specs.SetDef.{SetDef}
use Rattle.sporadic_model.specs.Seen.{parts_seen, resource_seen}
use Rattle.sporadic_model.specs.Users.{is_user}
use Rattle.sporadic_model.specs.Accepted.{SetSizes}
use Rattle.sporadic_model.specs.declared.ids.ResourceId.{ResourceId}
use Rattle.sporadic_model.proofs.Filtered.{listed_more, listed_same, listed_all}
use Rattle.sporadic_model.proofs.Kept.{user_kept}
use Rattle.sporadic_model.proofs.Laws.{sizes_of_accepted}
use Rattle.sporadic_model.proofs.users.used_by_task.Goals.{then-asks+in_ok-push, else-asks}
use Rattle.sporadic_model.proofs.users.used_by_task.Goals as goal

pub overflow_cast-q : goal.overflow_cast-q
overflow_cast-q c =
    let sizes : SetSizes (parts_seen c.args.parts.now) = sizes_of_accepted _ c.requires.table.accepted in
    let resources = length-map c.args.parts.now.resources.items resource_seen in
    omega arith

pub loop-q-preserved : goal.loop-q-preserved
loop-q-preserved c =
    let set : SetDef = parts_seen c.args.parts.now in
    let resources = length-map c.args.parts.now.resources.items resource_seen in
    let within : c.loop-q.q < length set.resources = omega arith in
    let same : c.asks.result ≡ is_user set c.loop-q.q c.args.x =
    c.asks.ensures ∙ user_kept set _ c.args.x c.loop-q.q c.requires.table.kept c.requires.task within in
    elim c.if-asks.branch [
      | then-asks+in_ok-push w ↦
          listed_more (λ (q : ResourceId). q.0) (λ q. is_user set q c.args.x) c.loop-q.q (length set.resources) c.loop-q.used.items
          _ _ _ within refl (ap (λ v. v.items) w.used-is ∙ w.in_ok-push.ensures.items) (sym same ∙ w.if-asks.true) c.loop-q.invariant
      | else-asks w ↦
          listed_same (λ (q : ResourceId). q.0) (λ q. is_user set q c.args.x) c.loop-q.q (length set.resources) c.loop-q.used.items
          _ _ within (ap (λ v. v.items) w.used-is) (sym same ∙ w.if-asks.false) c.loop-q.invariant
    ]

pub returns : goal.returns
returns c =
    let set : SetDef = parts_seen c.args.parts.now in
    let resources = length-map c.args.parts.now.resources.items resource_seen in
    listed_all (λ (q : ResourceId). q.0) (λ q. is_user set q c.args.x) c.loop-q.q (length set.resources) c.loop-q.used.items
    _ (omega arith) c.loop-q.invariant
