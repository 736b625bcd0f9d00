use Rattle.std.proofs.Common.{◌≡◌, ◌∙◌, ap, sym, subst, arith}
use Rattle.sporadic_model.specs.SetDef.{SetDef}
use Rattle.sporadic_model.specs.Accepted.{IsAccepted}
use Rattle.sporadic_model.proofs.Kept.{boost_highest, boost_within, boost_none}
use Rattle.sporadic_model.proofs.Laws.{ceiling_beyond}
use Rattle.sporadic_model.proofs.task_set.TaskSet.boost.Goals as goal

pub returns-then-k-self-clause-value : goal.returns-then-k-self-clause-value
returns-then-k-self-clause-value c =
    let set : SetDef = c.args.self.now in
    let accepted : IsAccepted set = subst IsAccepted c.self.view_is c.self.invariant.accepted in
    let same : c.self.inside.parts.processors ≡ set.processors = ap (λ s. s.processors) c.self.view_is in
    c.ceiling.ensures.value ∙ sym (ceiling_beyond set c.args.q.0 c.args.k accepted (omega (arith, same)))

pub returns-then-k-self-clause-highest : goal.returns-then-k-self-clause-highest
returns-then-k-self-clause-highest c =
    let set : SetDef = c.args.self.now in
    let accepted : IsAccepted set = subst IsAccepted c.self.view_is c.self.invariant.accepted in
    let same : c.self.inside.parts.processors ≡ set.processors = ap (λ s. s.processors) c.self.view_is in
    boost_highest set c.args.q.0 c.args.k c.ceiling.result
    (c.ceiling.ensures.value ∙ sym (ceiling_beyond set c.args.q.0 c.args.k accepted (omega (arith, same))))

pub returns-clause-highest : goal.returns-clause-highest
returns-clause-highest c = boost_highest c.args.self.now c.args.q.0 c.args.k c.kept_boost.result c.kept_boost.ensures

pub returns-clause-within : goal.returns-clause-within
returns-clause-within c = boost_within c.args.self.now c.args.q.0 c.args.k c.kept_boost.result c.kept_boost.ensures

pub returns-clause-none : goal.returns-clause-none
returns-clause-none c = boost_none c.args.self.now c.args.q.0 c.args.k c.kept_boost.result c.kept_boost.ensures
