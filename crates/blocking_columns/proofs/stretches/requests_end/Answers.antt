use Rattle.std.proofs.Common.{length, arith, sym, ◌∙◌}
use Rattle.std.proofs.lemmas.Bool.{eqb-true, eqb-false}
use Rattle.blocking_columns.proofs.Beginnings.{requests_begun, requests_more, requests_stop}
use Rattle.blocking_columns.proofs.stretches.requests_end.Goals as goal

pub loop-place-init : goal.loop-place-init
loop-place-init c = record {
  from = omega arith;
  within = omega (arith, c.requires.first.within);
  before = requests_begun c.args.x.0 c.args.q.0 c.args.from c.args.columns.now c.requires.from c.requires.first.here;
}

pub loop-place-preserved : goal.loop-place-preserved
loop-place-preserved c = record {
  from = omega arith;
  within = omega (arith, c.loop-place-test.true);
  before = requests_more c.args.x.0 c.args.q.0 c.args.columns.now c.loop-place.place _ c.loop-place-test.true
      (eqb-true _ _ (sym c.eq.ensures ∙ c.if-eq.true)) (eqb-true _ _ (sym c.eq-then-eq.ensures ∙ c.if-eq-2.true)) c.loop-place.invariant.before;
}

pub returns-else-eq : goal.returns-else-eq
returns-else-eq c = record {
  from = c.requires.from;
  to = requests_stop (length c.args.set.now.tasks) (length c.args.set.now.resources) c.args.x.0 c.args.q.0 c.args.from
      c.args.columns.now c.loop-place.place _ c.requires.ordered.known
      (omega (arith, c.resources-resources.ensures.most, c.resources-resources.ensures.value)) c.requires.first.known
      c.requires.ordered.order c.requires.from c.loop-place.invariant.from
      c.loop-place-test.true (λ task resource. eqb-false _ _ (sym c.eq.ensures ∙ c.if-eq.false) task) c.loop-place.invariant.before;
  order = omega (arith, c.loop-place.invariant.from);
}

pub returns-else-eq-2 : goal.returns-else-eq-2
returns-else-eq-2 c = record {
  from = c.requires.from;
  to = requests_stop (length c.args.set.now.tasks) (length c.args.set.now.resources) c.args.x.0 c.args.q.0 c.args.from
      c.args.columns.now c.loop-place.place _ c.requires.ordered.known
      (omega (arith, c.resources-resources.ensures.most, c.resources-resources.ensures.value)) c.requires.first.known
      c.requires.ordered.order c.requires.from c.loop-place.invariant.from
      c.loop-place-test.true (λ task resource. eqb-false _ _ (sym c.eq-then-eq.ensures ∙ c.if-eq-2.false) resource) c.loop-place.invariant.before;
  order = omega (arith, c.loop-place.invariant.from);
}
