use Rattle.std.proofs.Common.{◌∙◌, ◌+◌, List, Option, map, ap, subst, arith}
use Rattle.std.specs.Option.{option_map}
use Rattle.std.proofs.lemmas.List.{length-map}
use Rattle.sporadic_model.specs.SetDef.{SetDef}
use Rattle.sporadic_model.specs.Demands.{AreBoosts, boosts_on}
use Rattle.sporadic_model.specs.declared.ids.TaskId.{TaskId}
use Rattle.sporadic_model.proofs.Filtered.{kept_long}
use Rattle.sporadic_model.proofs.Kept.{boosts_row_long, boost_kept}
use Rattle.sporadic_model.proofs.task_set.TaskSet.kept_boost.Goals as goal

pub boost_at-requires : goal.boost_at-requires
boost_at-requires c =
    let set : SetDef = c.args.self.now in
    let rows : List (List (Option TaskId)) = map (λ row. row.items) c.deref.result.now in
    let kept : AreBoosts set rows =
    ap (λ l. map (map (option_map (λ (i : TaskId). i.0))) (map (λ row. row.items) l)) c.deref.ensures.value
    ∙ subst (λ s. AreBoosts s (map (λ row. row.items) c.self.inside.boosts.items)) c.self.view_is c.self.invariant.boosts in
    let many = kept_long (map (option_map (λ (i : TaskId). i.0))) (boosts_on set) rows (set.processors + 1) kept in
    let same = length-map c.deref.result.now (λ row. row.items) in
    let long = boosts_row_long set rows c.args.k kept c.requires.processor in
    record { row = omega (arith, c.requires.processor, many, same); entry = omega (arith, c.requires.resource, long) }

pub returns : goal.returns
returns c =
    let set : SetDef = c.args.self.now in
    let rows : List (List (Option TaskId)) = map (λ row. row.items) c.deref.result.now in
    let kept : AreBoosts set rows =
    ap (λ l. map (map (option_map (λ (i : TaskId). i.0))) (map (λ row. row.items) l)) c.deref.ensures.value
    ∙ subst (λ s. AreBoosts s (map (λ row. row.items) c.self.inside.boosts.items)) c.self.view_is c.self.invariant.boosts in
    ap (option_map (λ (i : TaskId). i.0)) c.boost_at.ensures
    ∙ boost_kept set rows c.args.k c.args.q.0 kept c.requires.processor c.requires.resource
