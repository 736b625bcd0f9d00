use Rattle.std.proofs.Common.{◌≡◌, ◌≤◌, slice_index_or, false}
use Rattle.number_laws.specs.Tests.{count_below}
use Rattle.number_laws.proofs.count.Given as goal

abbrev pub invariant-loop-mark : goal.invariant-loop-mark
invariant-loop-mark l = record {
  count : l.count ≡ count_below l.mark-index (λ k. slice_index_or l.marks k false);
  most : l.count ≤ l.mark-index;
}
