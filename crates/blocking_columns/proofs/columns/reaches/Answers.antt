use Rattle.std.proofs.Common.{◌≡◌, ◌==◌, ◌&&◌, ◌∙◌, sym, ap, not, rules, tests}
use Rattle.std.proofs.lemmas.Iterator.{YieldsList-from_slice}
use Rattle.std.proofs.lemmas.Iterator.Search.{any_from_yields_List}
use Rattle.sporadic_model.specs.SetDef.{task_at}
use Rattle.blocking_columns.specs.Ceilings.{place_in, may_precede}
use Rattle.blocking_columns.proofs.LinkPaths.{seen_paths, no_paths}
use Rattle.blocking_columns.proofs.columns.reaches.Goals as goal

pub returns : goal.returns
returns c =
    let p = c.args.protocol in
    let set = c.args.set.now in
    let x = c.args.x.0 in
    let q = c.args.q.0 in
    let place = c.place_seen-place.result in
    let seen : place ≡ place_in p set (task_at set x).processor q =
    c.place_seen-place.ensures ∙ ap (λ k. place_in p set k q) c.processor.ensures.value in
    any_from_yields_List (λ e. not (e.task.0 == x) && (not (e.resource.0 == q) && may_precede p place e.place)) _ _ _ c.any.ensures.ran
    (YieldsList-from_slice c.args.links.now cc) (λ e b q k. search (rules, tests))
    ∙ seen_paths p set c.args.i.0 x q place c.args.links.now c.requires.to.links seen c.requires.to.seen

pub returns-then-is_empty : goal.returns-then-is_empty
returns-then-is_empty c =
    no_paths c.args.protocol c.args.set.now c.args.i.0 c.args.x.0 c.args.q.0 c.args.links.now c.requires.to.links
    (sym c.is_empty.ensures ∙ c.if-is_empty.true)
