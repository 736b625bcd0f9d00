use Rattle.std.proofs.Common.{◌≡◌, ◌∙◌, ◌<◌, length, sym, arith, ap, refl}
use Rattle.std.proofs.lemmas.List.{length-map}
use Rattle.sporadic_model.specs.SetDef.{SetDef}
use Rattle.sporadic_model.specs.Seen.{parts_seen, task_seen}
use Rattle.sporadic_model.specs.Users.{is_user}
use Rattle.sporadic_model.specs.Accepted.{SetSizes}
use Rattle.sporadic_model.specs.declared.ids.TaskId.{TaskId}
use Rattle.sporadic_model.proofs.Filtered.{listed_more, listed_same, listed_all}
use Rattle.sporadic_model.proofs.Kept.{user_kept}
use Rattle.sporadic_model.proofs.Laws.{sizes_of_accepted}
use Rattle.sporadic_model.proofs.users.users_of_resource.Goals.{then-asks+in_ok-push, else-asks}
use Rattle.sporadic_model.proofs.users.users_of_resource.Goals as goal

pub overflow_cast-x : goal.overflow_cast-x
overflow_cast-x c =
    let sizes : SetSizes (parts_seen c.args.parts.now) = sizes_of_accepted _ c.requires.table.accepted in
    let tasks = length-map c.args.parts.now.tasks.items task_seen in
    omega arith

pub loop-x-preserved : goal.loop-x-preserved
loop-x-preserved c =
    let set : SetDef = parts_seen c.args.parts.now in
    let tasks = length-map c.args.parts.now.tasks.items task_seen in
    let within : c.loop-x.x < length set.tasks = omega arith in
    let same : c.asks.result ≡ is_user set c.args.q c.loop-x.x =
    c.asks.ensures ∙ user_kept set _ c.loop-x.x c.args.q c.requires.table.kept within c.requires.resource in
    elim c.if-asks.branch [
      | then-asks+in_ok-push w ↦
          listed_more (λ (x : TaskId). x.0) (is_user set c.args.q) c.loop-x.x (length set.tasks) c.loop-x.users.items
          _ _ _ within refl (ap (λ v. v.items) w.users-is ∙ w.in_ok-push.ensures.items) (sym same ∙ w.if-asks.true) c.loop-x.invariant
      | else-asks w ↦
          listed_same (λ (x : TaskId). x.0) (is_user set c.args.q) c.loop-x.x (length set.tasks) c.loop-x.users.items
          _ _ within (ap (λ v. v.items) w.users-is) (sym same ∙ w.if-asks.false) c.loop-x.invariant
    ]

pub returns : goal.returns
returns c =
    let set : SetDef = parts_seen c.args.parts.now in
    let tasks = length-map c.args.parts.now.tasks.items task_seen in
    listed_all (λ (x : TaskId). x.0) (is_user set c.args.q) c.loop-x.x (length set.tasks) c.loop-x.users.items
    _ (omega arith) c.loop-x.invariant
