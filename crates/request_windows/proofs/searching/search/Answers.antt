use Rattle.std.proofs.Common.{rules, ◌≤◌, suc, sym, arith}
use Rattle.std.specs.Prelude.{slice_index}
use Rattle.sporadic_model.specs.SetDef.{task_at}
use Rattle.window_laws.specs.Windows.{ticks_there}
use Rattle.window_laws.proofs.Enough.{none_below_next, least_is, none_is}
use Rattle.window_laws.proofs.Rising.{ticks_there_rise}
use Rattle.request_windows.proofs.searching.search.Goals as goal

pub returns-then-there-from : goal.returns-then-there-from
returns-then-there-from c =
    let there : ticks_there c.args.at.now.set.now (slice_index c.args.at.now.bounds.now) c.args.at.now.i.0 c.args.at.now.q.0 c.loop-span.span ≤ c.loop-span.span =
    omega (arith, c.ticks_there-there.ensures, c.from.ensures, c.if-there-from.true) in
    record {
      value = sym (least_is (ticks_there c.args.at.now.set.now (slice_index c.args.at.now.bounds.now) c.args.at.now.i.0 c.args.at.now.q.0)
          (suc (task_at c.args.at.now.set.now c.args.at.now.i.0).deadline) c.loop-span.span c.loop-span.invariant.none c.loop-span.invariant.from
          (omega (arith, c.loop-span-test.true, c.deadline-deadline.ensures.value)) there);
      within = search rules;
    }

pub loop-span-preserved : goal.loop-span-preserved
loop-span-preserved c = record {
  from = omega (
    arith,
    c.min-span.ensures,
    c.from.ensures,
    c.from-in-loop-span.ensures,
    c.if-there-from.false,
    c.loop-span.invariant.from,
  );
  none = λ m enough. omega (
    arith,
    c.min-span.ensures,
    c.ticks_there-there.ensures,
    none_below_next (ticks_there c.args.at.now.set.now (slice_index c.args.at.now.bounds.now) c.args.at.now.i.0 c.args.at.now.q.0) c.loop-span.span
        (λ v w more. ticks_there_rise c.args.at.now.set.now (slice_index c.args.at.now.bounds.now) (slice_index c.args.at.now.bounds.now) c.args.at.now.i.0 c.args.at.now.q.0
        v w more (λ x l. omega arith))
        c.loop-span.invariant.none m enough,
  );
}

pub returns : goal.returns
returns c =
    record {
      value = sym (none_is (ticks_there c.args.at.now.set.now (slice_index c.args.at.now.bounds.now) c.args.at.now.i.0 c.args.at.now.q.0)
          (suc (task_at c.args.at.now.set.now c.args.at.now.i.0).deadline) c.loop-span.span c.loop-span.invariant.none
          (omega (arith, c.loop-span-test.false, c.deadline-deadline.ensures.value)));
      within = search rules;
    }
