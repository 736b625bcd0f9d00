use Rattle.std.proofs.Common.{◌≡◌, ◌+◌, length, subst, sym, arith}
use Rattle.sporadic_model.specs.declared.limits.TheConstants.{MOST_TICKS}
use Rattle.phase_machine.specs.Least.{IsLeastOf, IsAhead}
use Rattle.phase_machine.proofs.Least.{least_ahead_more}
use Rattle.phase_machine.proofs.stretch.least_ahead.Goals as goal

pub loop-x-preserved : goal.loop-x-preserved
loop-x-preserved c = record {
  some = omega (arith, c.min-least.ensures, c.loop-x.invariant.some, c.ahead.ensures.some);
  least = subst (IsLeastOf MOST_TICKS (IsAhead c.args.jobs.now.jobs c.args.tick c.args.coming.now (c.loop-x.x + 1)))
      (sym c.min-least.ensures)
      (least_ahead_more c.args.jobs.now.jobs c.args.tick c.args.coming.now MOST_TICKS c.loop-x.least c.ahead.result
      c.loop-x.x c.ahead.ensures.release c.ahead.ensures.none
      c.loop-x.invariant.least);
}

pub returns : goal.returns
returns c =
    let end : c.loop-x.x ≡ length c.args.coming.now = omega (arith, c.loop-x-test.false, c.loop-x.auto.x-end) in
    record {
      some = c.loop-x.invariant.some;
      least = subst (λ n. IsLeastOf MOST_TICKS (IsAhead c.args.jobs.now.jobs c.args.tick c.args.coming.now n) c.loop-x.least) end
          c.loop-x.invariant.least;
    }
