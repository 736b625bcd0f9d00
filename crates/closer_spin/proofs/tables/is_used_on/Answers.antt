use Rattle.std.proofs.Common.{◌≡◌, ◌==◌, false, List, take_all, subst, sym, ◌∙◌}
use Rattle.std.specs.List.{list_any}
use Rattle.std.proofs.lemmas.Bool.{eq-eqb}
use Rattle.std.proofs.lemmas.List.Folds.{list_any_at}
use Rattle.sporadic_model.specs.SetDef.{task_at}
use Rattle.sporadic_model.specs.declared.ids.TaskId.{TaskId}
use Rattle.closer_spin.proofs.UsersThere.{used_on}
use Rattle.closer_spin.proofs.tables.is_used_on.Goals as goal

pub returns : goal.returns
returns c =
    let set = c.args.set.now in
    let k = c.args.processor in
    let users = c.users-users.result.now in
    let test = λ (x : TaskId). (task_at set x.0).processor == k in
    sym (subst (λ (xs : List TaskId). list_any test xs ≡ false) (take_all c.loop-x.x-index users c.loop-x-test.false) c.loop-x.invariant)
    ∙ used_on set k c.args.q.0 users c.users-users.ensures.value

pub returns-then-processor : goal.returns-then-processor
returns-then-processor c =
    let set = c.args.set.now in
    let k = c.args.processor in
    let users = c.users-users.result.now in
    let test = λ (x : TaskId). (task_at set x.0).processor == k in
    sym (list_any_at test users c.loop-x.x-index _ c.loop-x-test.true
    (eq-eqb _ _ (sym c.processor.ensures.value ∙ c.if-processor.true)))
    ∙ used_on set k c.args.q.0 users c.users-users.ensures.value
