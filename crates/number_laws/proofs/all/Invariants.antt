use Rattle.std.proofs.Common.{◌≡◌, slice_index_or, false, true}
use Rattle.number_laws.specs.Tests.{all_below}
use Rattle.number_laws.proofs.all.Given as goal

abbrev pub invariant-loop-mark : goal.invariant-loop-mark
invariant-loop-mark l = all_below l.mark-index (λ k. slice_index_or l.marks k false) ≡ true
