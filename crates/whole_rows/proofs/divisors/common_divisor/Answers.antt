use Rattle.std.proofs.Common.{◌≡◌, ℕ, arith, rules, subst, unsigned_abs}
use Rattle.std.specs.Int.{IsGcd, ◌∣◌}
use Rattle.std.proofs.lemmas.Nat.Gcd.{dvd_trans}
use Rattle.std.proofs.Math.Nat.{one-dvd}
use Rattle.fraction128.proofs.Reduced.{gcd_positive}
use Rattle.whole_rows.specs.Numbers.{number_at}
use Rattle.whole_rows.proofs.Dividing.{divides_more, divides_each}
use Rattle.whole_rows.proofs.divisors.common_divisor.Goals as goal

pub returns-then-common-eq1 : goal.returns-then-common-eq1
returns-then-common-eq1 c =
    let one : c.loop-num.common ≡ 1 = search rules in
    record {
      positive = omega arith;
      first = one-dvd c.args.first;
      all = λ k. one-dvd _;
      greatest = λ d in_first each. subst (λ (n : ℕ). d ∣ n) one (c.loop-num.invariant.greatest d in_first each);
    }

pub loop-num-preserved : goal.loop-num-preserved
loop-num-preserved c =
    let size : c.unsigned_abs.result ≡ unsigned_abs (number_at c.args.nums.now c.loop-num.num-index) = search rules in
    let gcd : IsGcd (unsigned_abs (number_at c.args.nums.now c.loop-num.num-index)) c.loop-num.common
    c.greatest_common_divisor-common.result = rw size at c.greatest_common_divisor-common.ensures in
    record {
      positive = gcd_positive _ _ _ c.loop-num.invariant.positive gcd;
      first = dvd_trans _ gcd.1 c.loop-num.invariant.first;
      all = divides_more c.args.nums.now c.loop-num.num-index c.loop-num.common _ c.loop-num.invariant.all gcd;
      greatest = λ d in_first each. gcd.2 d (each c.loop-num.num-index) (c.loop-num.invariant.greatest d in_first each);
    }

pub returns : goal.returns
returns c = record {
  positive = c.loop-num.invariant.positive;
  first = c.loop-num.invariant.first;
  all = divides_each c.args.nums.now c.loop-num.num-index c.loop-num.common (omega (arith, c.loop-num-test.false)) c.loop-num.invariant.all;
  greatest = c.loop-num.invariant.greatest;
}
