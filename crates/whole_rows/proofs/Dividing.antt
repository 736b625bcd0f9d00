-- Numbers divided by a common divisor.
use Rattle.std.proofs.Common.{◌≡◌, ℕ, suc, ◌+◌, ◌*◌, ◌/◌, ◌<◌, ◌≤◌, ◌^◌, inl, inr, List, length}
use Rattle.std.proofs.Common.{ℤ, pos, negsuc, ◌*ℤ◌, neg_ℤ, ◌<ℤ◌, unsigned_abs}
use Rattle.std.proofs.Common.{FitsSigned, to_z, of_z, int_div, int_rem, ◌+ℤ◌, w64, refl, sym, ◌∙◌, subst, arith}
use Rattle.std.specs.Int.{IsGcd, ◌∣◌}
use Rattle.std.proofs.lemmas.Bool.{cases_eq, cases_lt}
use Rattle.std.proofs.lemmas.List.{get_or_past}
use Rattle.std.proofs.lemmas.Int.{ints, quot_is, quot_fits, quot-rem, to_z-of_z}
use Rattle.std.proofs.lemmas.Nat.Gcd.{dvd_trans}
use Rattle.std.proofs.Math.IntN.{+ℤ_idr}
use Rattle.std.proofs.Math.Nat.{div-mul_cancel, dvd-zero, le_of_dvd}
use Rattle.number_laws.specs.Divisors.{IsCoprime}
use Rattle.number_laws.proofs.Divisors.{coprime_of_gcd, parts_apart}
use Rattle.number_laws.proofs.Ring.{mul-neg_left, one-mul, zero-mul}
use Rattle.number_laws.proofs.Order.{above_zero, cancel_lt}
use Rattle.fraction128.proofs.Reduced.{gcd_positive}
use Rattle.fraction128.proofs.Unique.{size_positive}
use Rattle.fraction128.proofs.Products.{fits_part}
use Rattle.whole_rows.specs.Numbers.{number_at, DividesEach, AreDivided, IsCancelled, IsSameRow}

-- a divisor of the size leaves no rest
pub quot_exact : (n by : ℤ) → pos 0 <ℤ by → unsigned_abs by ∣ unsigned_abs n → n ≡ int_div n by *ℤ by
quot_exact n (negsuc g) positive h = absurd (omega (arith, ints))
quot_exact (pos a) (pos g) positive h = omega (arith, ints, div-mul_cancel g h)
quot_exact (negsuc a) (pos g) positive h =
    let whole : suc a / g * g ≡ suc a = div-mul_cancel g h in
    let turned : neg_ℤ (pos (suc a / g)) *ℤ pos g ≡ neg_ℤ (pos (suc a / g) *ℤ pos g) = mul-neg_left (pos (suc a / g)) (pos g) in
    omega (arith, ints)

-- the sizes that the code reads are those of the numbers
pub gcd_read : (n d : ℤ) (a b g : ℕ) → FitsSigned w64 n → FitsSigned w64 d → a ≡ unsigned_abs (to_z w64 (of_z w64 n))
    → b ≡ unsigned_abs (to_z w64 (of_z w64 d)) → IsGcd a b g → IsGcd (unsigned_abs n) (unsigned_abs d) g
gcd_read n d a b g fits_n fits_d p q h = rw (p, to_z-of_z w64 n fits_n, q, to_z-of_z w64 d fits_d) at h

-- the greatest common divisor with a denominator is above zero, and fits
pub common_positive : (n d : ℤ) (g : ℕ) → pos 0 <ℤ d → IsGcd (unsigned_abs n) (unsigned_abs d) g → 0 < g
common_positive n d g positive h = gcd_positive (unsigned_abs n) (unsigned_abs d) g (size_positive d positive) h

pub divisor_fits : (d : ℤ) (g : ℕ) → pos 0 <ℤ d → FitsSigned w64 d → g ∣ unsigned_abs d → FitsSigned w64 (pos g)
divisor_fits d g positive fits h =
    let most : g ≤ unsigned_abs d = le_of_dvd (size_positive d positive) h in
    let small : g < 2 ^ 63 = omega (arith, ints) in
    fits_part (pos g) small

pub quotient_positive : (d p g : ℤ) → pos 0 <ℤ d → pos 0 <ℤ g → d ≡ p *ℤ g → pos 0 <ℤ p
quotient_positive d p g positive above is =
    cancel_lt (pos 0) p g above (rw (zero-mul g) (subst (λ (z : ℤ). pos 0 <ℤ z) is positive))

pub is_cancelled : (n d : ℤ) (g : ℕ) → pos 0 <ℤ d → IsGcd (unsigned_abs n) (unsigned_abs d) g
    → IsCancelled n d (int_div n (pos g)) (int_div d (pos g))
is_cancelled n d g positive h =
    let above : pos 0 <ℤ pos g = above_zero g (common_positive n d g positive h) in
    let top : n ≡ int_div n (pos g) *ℤ pos g = quot_exact n (pos g) above h.0 in
    let bottom : d ≡ int_div d (pos g) *ℤ pos g = quot_exact d (pos g) above h.1 in
    record {
      divisor = pos g;
      above = above;
      positive = quotient_positive d (int_div d (pos g)) (pos g) positive above bottom;
      top_is = top;
      bottom_is = bottom;
    }

-- the quotient's size
quot_size : (n : ℤ) (g : ℕ) → unsigned_abs (int_div n (pos g)) ≡ unsigned_abs n / g
quot_size (pos a) g = refl
quot_size (negsuc a) g = omega (arith, ints)

-- by the greatest nothing is left
pub cancelled_apart : (n d : ℤ) (g : ℕ) → pos 0 <ℤ d → IsGcd (unsigned_abs n) (unsigned_abs d) g
    → IsCoprime (unsigned_abs (int_div n (pos g))) (unsigned_abs (int_div d (pos g)))
cancelled_apart n d g positive h =
    rw (quot_size n g, quot_size d g)
    (coprime_of_gcd _ _ (parts_apart (unsigned_abs n) (unsigned_abs d) g (common_positive n d g positive h) h))

-- where no rest is left the denominator is the common divisor
pub whole_cancelled : (n d : ℤ) → pos 0 <ℤ d → int_rem n d ≡ pos 0 → IsCancelled n d (int_div n d) (pos 1)
whole_cancelled n d positive none =
    let whole : int_div n d *ℤ d +ℤ pos 0 ≡ n = rw none at (quot-rem n d) in
    record {
      divisor = d;
      above = positive;
      positive = omega (arith, ints);
      top_is = sym whole ∙ +ℤ_idr (int_div n d *ℤ d);
      bottom_is = sym (one-mul d);
    }

-- what the code's quotient of two parts is
pub quotient_read : (n d : ℤ) → FitsSigned w64 n → FitsSigned w64 d → pos 0 <ℤ d
    → to_z w64 (of_z w64 (int_div (to_z w64 (of_z w64 n)) (to_z w64 (of_z w64 d)))) ≡ int_div n d
quotient_read n d fits_n fits_d positive = quot_is w64 n d fits_n fits_d (quot_fits w64 n d fits_n positive)

pub quotient_fits_read : (n d : ℤ) → FitsSigned w64 n → FitsSigned w64 d → pos 0 <ℤ d
    → FitsSigned w64 (int_div (to_z w64 (of_z w64 n)) (to_z w64 (of_z w64 d)))
quotient_fits_read n d fits_n fits_d positive =
    rw (to_z-of_z w64 n fits_n, to_z-of_z w64 d fits_d) (quot_fits w64 n d fits_n positive)

-- a divisor of the numbers so far, and of one more
pub divides_more : (nums : List ℤ) (i common g : ℕ) → ((k : ℕ) → k < i → common ∣ unsigned_abs (number_at nums k))
    → IsGcd (unsigned_abs (number_at nums i)) common g → (k : ℕ) → k < i + 1 → g ∣ unsigned_abs (number_at nums k)
divides_more nums i common g all h k l = elim (cases_eq k i) [
  | inl here ↦ rw here h.0
  | inr other ↦ dvd_trans g h.1 (all k (omega arith))
]

pub divides_each : (nums : List ℤ) (i common : ℕ) → length nums ≤ i → ((k : ℕ) → k < i → common ∣ unsigned_abs (number_at nums k))
    → DividesEach common nums
divides_each nums i common l all k = elim (cases_lt k i) [
  | inl within ↦ all k within
  | inr past ↦ rw (get_or_past nums k (pos 0) (omega arith)) (dvd-zero common)
]

-- the parts of a row divided
pub parts_divided : (nums after : List ℤ) (limit den : ℤ) (g : ℕ) → 0 < g → AreDivided nums (pos g) after
    → g ∣ unsigned_abs limit → g ∣ unsigned_abs den
    → IsSameRow (record { nums = nums; limit = limit; den = den })
    (record { nums = after; limit = int_div limit (pos g); den = int_div den (pos g) })
parts_divided nums after limit den g above h in_limit in_den = record {
  divisor = pos g;
  above = above_zero g above;
  nums = h;
  limit = quot_exact limit (pos g) (above_zero g above) in_limit;
  den = quot_exact den (pos g) (above_zero g above) in_den;
}
