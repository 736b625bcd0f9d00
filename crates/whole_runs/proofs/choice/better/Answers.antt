use Rattle.std.proofs.Common.{arith}
use Rattle.exchange_runs.proofs.Leasts.{least_replaced, least_kept}
use Rattle.exchange_runs.specs.SmallRuns.{IsSmall}
use Rattle.whole_runs.specs.Choice.{value_of}
use Rattle.whole_runs.proofs.Choosing.{small_fractions}
use Rattle.whole_runs.proofs.choice.better.Goals as goal

pub returns-then-comes_before : goal.returns-then-comes_before
returns-then-comes_before c =
    let next = c.args.next in
    let best = c.args.best in
    let comes = c.if-comes_before.ensures in
    record {
      least = λ t place e agrees so_far is.
          least_replaced IsSmall place t e next.row best.row (value_of best) (value_of next) small_fractions so_far is.has is.is comes.0
          (rw (agrees next.row, agrees best.row) comes.1);
      within = omega arith;
    }

pub returns-else-comes_before : goal.returns-else-comes_before
returns-else-comes_before c =
    let next = c.args.next in
    let best = c.args.best in
    let comes = c.if-comes_before.ensures in
    record {
      least = λ t place e agrees so_far is.
          least_kept IsSmall place t e next.row best.row (value_of best) (value_of next) so_far is.is comes.0
          (rw (agrees best.row, agrees next.row) comes.1);
      within = omega (arith, c.requires.earlier);
    }
