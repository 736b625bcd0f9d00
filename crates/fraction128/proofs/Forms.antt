-- Forms of single fractions: a whole number, the other sign, and the whole part.
use Rattle.std.proofs.Common.{◌≡◌, ℕ, suc, ◌+◌, ◌*◌, ◌/◌, ◌<◌, ◌≤◌, ◌^◌, sym, subst, arith}
use Rattle.std.proofs.Common.{ℤ, pos, negsuc, ◌*ℤ◌, neg_ℤ, ◌≤ℤ◌, ◌<ℤ◌, unsigned_abs}
use Rattle.std.specs.Int.{int_div_euclid}
use Rattle.std.proofs.lemmas.Int.{ints}
use Rattle.std.proofs.Math.Nat.{eq-one_of_dvd-one, div-mul-le_self, lt-mul-div-succ, div-lt_iff_lt-mul, le-div_iff_mul-le}
use Rattle.number_laws.specs.Divisors.{IsCoprime}
use Rattle.fraction128.specs.Fraction.{Fraction, IsForm, IsFloor, over, whole}

pub form_of_whole : (n : ℕ) → n < 2 ^ 63 → IsForm (over (pos n) (pos 1))
form_of_whole n h = record {
  positive = omega (arith, ints);
  small_num = h;
  small_den = omega arith;
  lowest = λ d p q. eq-one_of_dvd-one q;
}

pub form_of_zero : IsForm (whole (pos 0))
form_of_zero = form_of_whole 0 (omega arith)

size-neg : (n : ℤ) → unsigned_abs (neg_ℤ n) ≡ unsigned_abs n
size-neg n = omega (arith, ints)

pub form_of_negated : (n d : ℤ) → IsForm (over n d) → IsForm (over (neg_ℤ n) d)
form_of_negated n d h = record {
  positive = h.positive;
  small_num = omega (arith, size-neg n, h.small_num);
  small_den = h.small_den;
  lowest = subst (λ (m : ℕ). IsCoprime m (unsigned_abs d)) (sym (size-neg n)) h.lowest;
}

-- the whole part is within, over a positive denominator
part_within : (n : ℤ) (d : ℕ) → 0 < d → (int_div_euclid n (pos d) *ℤ pos d) ≤ℤ (n *ℤ pos 1)
part_within (pos n) d h = omega (arith, ints, div-mul-le_self n d)
part_within (negsuc n) d h =
    let next : n < d * (n / d + 1) = lt-mul-div-succ n h in
    omega (arith, ints)

-- and no greater whole number is
part_greatest : (n : ℤ) (d : ℕ) (m : ℤ) → 0 < d → (m *ℤ pos d) ≤ℤ (n *ℤ pos 1) → m ≤ℤ int_div_euclid n (pos d)
part_greatest (pos n) d (pos m) h k =
    let below : m * d ≤ n = omega (arith, ints) in
    let there : m ≤ n / d = (le-div_iff_mul-le {k = d} {x = m} {y = n} h).1 below in
    omega (arith, ints)
part_greatest (pos n) d (negsuc m) h k = omega (arith, ints)
part_greatest (negsuc n) d (pos m) h k = absurd (omega (arith, ints))
part_greatest (negsuc n) d (negsuc m) h k =
    let above : n < suc m * d = omega (arith, ints) in
    let there : n / d < suc m = (div-lt_iff_lt-mul {k = d} {x = n} {y = suc m} h).1 above in
    omega (arith, ints)

pub floor_of : (f : Fraction) → IsForm f → IsFloor f (int_div_euclid f.num f.den)
floor_of f h = elim_den f.num f.den h.positive
  where
    elim_den : (n d : ℤ) → pos 0 <ℤ d → IsFloor (over n d) (int_div_euclid n d)
    elim_den n (pos d) p = record {
      within = record { le = part_within n d (omega (arith, ints)) };
      greatest = λ m q. part_greatest n d m (omega (arith, ints)) q.le;
    }
    elim_den n (negsuc d) p = absurd (omega (arith, ints))
