use Rattle.std.proofs.Common.{◌≡◌, slice_index_or, false}
use Rattle.number_laws.specs.Tests.{any_below}
use Rattle.number_laws.proofs.any.Given as goal

abbrev pub invariant-loop-mark : goal.invariant-loop-mark
invariant-loop-mark l = any_below l.mark-index (λ k. slice_index_or l.marks k false) ≡ false
