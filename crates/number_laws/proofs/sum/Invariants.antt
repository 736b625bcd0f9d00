use Rattle.std.proofs.Common.{◌≡◌, slice_index}
use Rattle.number_laws.specs.Sums.{sum_below}
use Rattle.number_laws.proofs.sum.Given as goal

abbrev pub invariant-loop-value : goal.invariant-loop-value
invariant-loop-value l = l.sum ≡ sum_below l.value-index (λ k. slice_index l.values k)
