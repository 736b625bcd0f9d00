use Rattle.std.proofs.Common.{◌≡◌, false, List, take_all, subst, sym, ◌∙◌}
use Rattle.std.specs.List.{list_any}
use Rattle.std.proofs.lemmas.List.Folds.{list_any_at}
use Rattle.sporadic_model.specs.declared.ids.TaskId.{TaskId}
use Rattle.blocking_columns.specs.Columns.{is_lower_local}
use Rattle.spin_protocol.proofs.UsersBeside.{used_below}
use Rattle.spin_protocol.proofs.rows.is_used_below.Goals as goal

pub returns-then-lower_local : goal.returns-then-lower_local
returns-then-lower_local c =
    let set = c.args.set.now in
    let i = c.args.i.0 in
    let users = c.users-users.result.now in
    sym (list_any_at (λ (x : TaskId). is_lower_local set i x.0) users c.loop-x.x-index _ c.loop-x-test.true
    (sym c.lower_local.ensures ∙ c.if-lower_local.true))
    ∙ used_below set i c.args.q.0 users c.users-users.ensures.value

pub returns : goal.returns
returns c =
    let set = c.args.set.now in
    let i = c.args.i.0 in
    let users = c.users-users.result.now in
    let test = λ (x : TaskId). is_lower_local set i x.0 in
    sym (subst (λ (xs : List TaskId). list_any test xs ≡ false) (take_all c.loop-x.x-index users c.loop-x-test.false)
    c.loop-x.invariant)
    ∙ used_below set i c.args.q.0 users c.users-users.ensures.value
