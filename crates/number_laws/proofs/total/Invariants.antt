use Rattle.std.proofs.Common.{◌≡◌, ◌*◌, ◌^◌, slice_index_or, pos, neg_ℤ, ◌≤ℤ◌}
use Rattle.number_laws.specs.WholeSums.{total_below}
use Rattle.number_laws.proofs.total.Given as goal

abbrev pub invariant-loop-value : goal.invariant-loop-value
invariant-loop-value l = record {
  total : l.total ≡ total_below l.value-index (λ k. slice_index_or l.values k (pos 0));
  high : l.total ≤ℤ pos (l.value-index * 2 ^ 31);
  low : neg_ℤ (pos (l.value-index * 2 ^ 31)) ≤ℤ l.total;
}
