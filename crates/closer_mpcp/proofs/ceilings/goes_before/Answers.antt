use Rattle.std.proofs.Common.{◌≡◌, false, length, List, take_all, subst, sym, ◌∙◌}
use Rattle.std.specs.List.{list_any}
use Rattle.std.proofs.lemmas.List.Folds.{list_any_at}
use Rattle.sporadic_model.specs.declared.ids.ResourceId.{ResourceId}
use Rattle.sporadic_model.specs.Users.{is_user}
use Rattle.blocking_columns.proofs.KeptNumbers.{any_of_kept}
use Rattle.closer_mpcp_laws.specs.CloserMpcpRows.{goes_first}
use Rattle.closer_mpcp.proofs.ceilings.goes_before.Goals as goal

pub returns-then-goes_first_of : goal.returns-then-goes_first_of
returns-then-goes_first_of c =
    let set = c.args.set.now in
    let used = c.used_by-used.result.now in
    sym (list_any_at (λ (q : ResourceId). goes_first set c.args.x.0 q.0 c.args.r.0) used c.loop-q.q-index _ c.loop-q-test.true
    (sym c.goes_first_of.ensures ∙ c.if-goes_first_of.true))
    ∙ any_of_kept (λ (q : ResourceId). q.0) used (λ q. is_user set q c.args.x.0) (λ q. goes_first set c.args.x.0 q c.args.r.0)
    (length set.resources) c.used_by-used.ensures.value

pub returns : goal.returns
returns c =
    let set = c.args.set.now in
    let used = c.used_by-used.result.now in
    let test = λ (q : ResourceId). goes_first set c.args.x.0 q.0 c.args.r.0 in
    sym (subst (λ (qs : List ResourceId). list_any test qs ≡ false) (take_all c.loop-q.q-index used c.loop-q-test.false)
    c.loop-q.invariant)
    ∙ any_of_kept (λ (q : ResourceId). q.0) used (λ q. is_user set q c.args.x.0) (λ q. goes_first set c.args.x.0 q c.args.r.0)
    (length set.resources) c.used_by-used.ensures.value
