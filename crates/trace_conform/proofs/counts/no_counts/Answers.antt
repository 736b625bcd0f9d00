use Rattle.std.proofs.Common.{◌≡◌, ◌∙◌, sym, subst, arith}
use Rattle.trace_conform.specs.Counts.{AreCounts}
use Rattle.trace_conform.proofs.FirstCounts.{counted_first}
use Rattle.trace_conform.proofs.counts.no_counts.Goals as goal

pub returns : goal.returns
returns c = λ interferes w size.
    let all : c.args.jobs ≡ c.loop.counter = omega (arith, c.loop-test.false, c.loop.auto.counter-end) in
    subst (λ counts. AreCounts interferes w 0 counts) (sym c.loop.invariant) (counted_first interferes w c.loop.counter (size ∙ all))
