use Rattle.std.proofs.Common.{◌≡◌, replicate}
use Rattle.trace_conform.specs.Counts.{no_count}
use Rattle.trace_conform.proofs.counts.no_counts.Given as goal

abbrev pub invariant-loop : goal.invariant-loop
invariant-loop l = l.counts.items ≡ replicate l.counter no_count
