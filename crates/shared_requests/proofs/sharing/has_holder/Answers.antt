use Rattle.std.proofs.Common.{◌≡◌, false, length, List, take_all, subst, sym, ◌∙◌}
use Rattle.std.specs.List.{list_any}
use Rattle.std.proofs.lemmas.List.Folds.{list_any_at}
use Rattle.sporadic_model.specs.declared.ids.TaskId.{TaskId}
use Rattle.sporadic_model.specs.Users.{is_user}
use Rattle.blocking_columns.proofs.KeptNumbers.{any_of_kept}
use Rattle.shared_requests.specs.Held.{is_holder}
use Rattle.shared_requests.proofs.sharing.has_holder.Goals as goal

pub returns-then-is_holder : goal.returns-then-is_holder
returns-then-is_holder c =
    let set = c.args.set.now in
    let users = c.users-users.result.now in
    sym (list_any_at (λ (y : TaskId). is_holder c.args.by set c.args.i.0 c.args.x.0 y.0) users c.loop-y.y-index _ c.loop-y-test.true
    (sym c.is_holder.ensures ∙ c.if-is_holder.true))
    ∙ any_of_kept (λ (y : TaskId). y.0) users (is_user set c.args.q.0) (is_holder c.args.by set c.args.i.0 c.args.x.0) (length set.tasks)
    c.users-users.ensures.value

pub returns : goal.returns
returns c =
    let set = c.args.set.now in
    let users = c.users-users.result.now in
    let test = λ (y : TaskId). is_holder c.args.by set c.args.i.0 c.args.x.0 y.0 in
    sym (subst (λ (ys : List TaskId). list_any test ys ≡ false) (take_all c.loop-y.y-index users c.loop-y-test.false)
    c.loop-y.invariant)
    ∙ any_of_kept (λ (y : TaskId). y.0) users (is_user set c.args.q.0) (is_holder c.args.by set c.args.i.0 c.args.x.0) (length set.tasks)
    c.users-users.ensures.value
