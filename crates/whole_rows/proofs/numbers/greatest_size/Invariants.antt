use Rattle.std.proofs.Common.{◌≡◌, ◌⊎◌, ℕ, ◌<◌, ◌≤◌, unsigned_abs}
use Rattle.whole_rows.specs.Numbers.{number_at, AreWithin}
use Rattle.whole_rows.proofs.numbers.greatest_size.Given as goal

abbrev pub invariant-loop-num : goal.invariant-loop-num
invariant-loop-num l = record {
  first : l.first ≤ l.most;
  all : (k : ℕ) → k < l.num-index → unsigned_abs (number_at l.nums k) ≤ l.most;
  attained : (l.most ≡ l.first) ⊎ ((k : ℕ) × (unsigned_abs (number_at l.nums k) ≡ l.most));
  least : (most : ℕ) → l.first ≤ most → AreWithin most l.nums → l.most ≤ most;
}
