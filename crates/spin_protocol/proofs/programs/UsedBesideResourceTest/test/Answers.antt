use Rattle.std.proofs.Common.{◌≡◌, ◌==◌, ◌&&◌, not, false, List, take_all, subst, sym, ◌∙◌}
use Rattle.std.specs.List.{list_any}
use Rattle.std.proofs.lemmas.List.Folds.{list_any_at}
use Rattle.sporadic_model.specs.declared.ids.TaskId.{TaskId}
use Rattle.blocking_columns.specs.Columns.{have_one_processor}
use Rattle.spin_protocol.proofs.UsersBeside.{used_beside}
use Rattle.spin_protocol.proofs.programs.UsedBesideResourceTest.test.Goals as goal

pub returns-then-is_beside : goal.returns-then-is_beside
returns-then-is_beside c =
    let set = c.args.set.now in
    let i = c.args.i.0 in
    let users = c.users-users.result.now in
    sym (list_any_at (λ (z : TaskId). not (z.0 == i) && have_one_processor set z.0 i) users c.loop-z.z-index _ c.loop-z-test.true
    (sym c.is_beside.ensures ∙ c.if-is_beside.true))
    ∙ used_beside set i c.args.q.0 users c.users-users.ensures.value

pub returns : goal.returns
returns c =
    let set = c.args.set.now in
    let i = c.args.i.0 in
    let users = c.users-users.result.now in
    let test = λ (z : TaskId). not (z.0 == i) && have_one_processor set z.0 i in
    sym (subst (λ (zs : List TaskId). list_any test zs ≡ false) (take_all c.loop-z.z-index users c.loop-z-test.false)
    c.loop-z.invariant)
    ∙ used_beside set i c.args.q.0 users c.users-users.ensures.value
