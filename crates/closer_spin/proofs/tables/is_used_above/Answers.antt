use Rattle.std.proofs.Common.{◌≡◌, ◌&&◌, rules, true, false, List, take_all, subst, sym, ◌∙◌, nat_le}
use Rattle.std.specs.List.{list_any}
use Rattle.std.proofs.lemmas.Bool.{and_from, le-leb}
use Rattle.std.proofs.lemmas.List.Folds.{list_any_at}
use Rattle.sporadic_model.specs.declared.ids.TaskId.{TaskId}
use Rattle.blocking_columns.specs.Columns.{have_one_processor}
use Rattle.closer_spin.proofs.UsersThere.{used_above}
use Rattle.closer_spin.proofs.tables.is_used_above.Goals as goal

pub returns : goal.returns
returns c =
    let set = c.args.set.now in
    let i = c.args.i.0 in
    let users = c.users-users.result.now in
    let test = λ (x : TaskId). nat_le x.0 i && have_one_processor set x.0 i in
    sym (subst (λ (xs : List TaskId). list_any test xs ≡ false) (take_all c.loop-x.x-index users c.loop-x-test.false) c.loop-x.invariant)
    ∙ used_above set i c.args.q.0 users c.users-users.ensures.value

pub returns-then-share_processor : goal.returns-then-share_processor
returns-then-share_processor c =
    let set = c.args.set.now in
    let i = c.args.i.0 in
    let users = c.users-users.result.now in
    let test = λ (x : TaskId). nat_le x.0 i && have_one_processor set x.0 i in
    let beside : c.share_processor.result ≡ true = search rules in
    sym (list_any_at test users c.loop-x.x-index _ c.loop-x-test.true
    (and_from _ _ (le-leb _ _ c.if-x-i.true) (sym c.share_processor.ensures ∙ beside)))
    ∙ used_above set i c.args.q.0 users c.users-users.ensures.value
