use Rattle.std.proofs.Common.{ℕ, ◌<◌, unsigned_abs}
use Rattle.std.specs.Int.{◌∣◌}
use Rattle.whole_rows.specs.Numbers.{number_at, DividesEach}
use Rattle.whole_rows.proofs.divisors.common_divisor.Given as goal

abbrev pub invariant-loop-num : goal.invariant-loop-num
invariant-loop-num l = record {
  positive : 0 < l.common;
  first : l.common ∣ l.first;
  all : (k : ℕ) → k < l.num-index → l.common ∣ unsigned_abs (number_at l.nums k);
  greatest : (d : ℕ) → d ∣ l.first → DividesEach d l.nums → d ∣ l.common;
}
