use Rattle.std.proofs.Common.{length, arith, sym, ◌∙◌}
use Rattle.std.proofs.lemmas.Bool.{eqb-true, eqb-false}
use Rattle.blocking_columns.proofs.Beginnings.{task_more, task_stops}
use Rattle.blocking_columns.proofs.stretches.task_end.Goals as goal

pub loop-place-preserved : goal.loop-place-preserved
loop-place-preserved c = record {
  from = omega arith;
  within = omega (arith, c.loop-place-test.true);
  before = task_more (length c.args.set.now.tasks) (length c.args.set.now.resources) c.args.x.0 c.args.columns.now
      c.loop-place.place _ c.requires.ordered.known
      (omega (arith, c.resources-resources.ensures.most, c.resources-resources.ensures.value)) c.loop-place-test.true
      (eqb-true _ _ (sym c.eq.ensures ∙ c.if-eq.true)) c.loop-place.invariant.before;
}

pub returns-else-eq : goal.returns-else-eq
returns-else-eq c = record {
  from = c.requires.from;
  to = task_stops (length c.args.set.now.tasks) (length c.args.set.now.resources) c.args.x.0 c.args.from c.args.columns.now
      c.loop-place.place _ c.requires.ordered.known
      (omega (arith, c.resources-resources.ensures.most, c.resources-resources.ensures.value)) c.requires.ordered.order
      c.requires.from c.loop-place.invariant.from
      c.loop-place-test.true (eqb-false _ _ (sym c.eq.ensures ∙ c.if-eq.false)) c.loop-place.invariant.before;
  order = c.loop-place.invariant.from;
}
