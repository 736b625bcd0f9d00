-- Rows without a common divisor, and sizes that are some number's.
use Rattle.std.proofs.Common.{◌≡◌, ◌⊎◌, inl, inr, ℕ, ◌*◌, ◌<◌, length, ℤ, pos, ◌*ℤ◌, unsigned_abs}
use Rattle.std.proofs.Common.{refl, sym, ◌∙◌, ap, subst, arith}
use Rattle.std.specs.Int.{IsGcd, ◌∣◌}
use Rattle.std.proofs.lemmas.Int.{unsigned_abs-mul}
use Rattle.std.proofs.Math.Nat.{dvd_of_mul-dvd-mul_right, eq-one_of_dvd-one, mul-dvd-mul_right}
use Rattle.whole_rows.specs.Rows.{RowDef, PivotDef, entry_at, AreSparse}
use Rattle.whole_rows.specs.Numbers.{number_at, DividesEach, IsSameRow}
use Rattle.whole_rows.specs.Large.{IsPast, IsReduced, IsSizeIn, IsSizeInPivot, IsTooLarge}
use Rattle.whole_rows.proofs.Listed.{listed_entry}

-- a common divisor of the limit, the denominator and all numbers divides the one that the code finds
pub greatest_of_parts : (row : RowDef) (first g : ℕ) → IsGcd (unsigned_abs row.limit) (unsigned_abs row.den) first
    → ((d : ℕ) → d ∣ first → DividesEach d row.nums → d ∣ g) → (d : ℕ) → DividesEach d row.nums → d ∣ unsigned_abs row.limit
    → d ∣ unsigned_abs row.den → d ∣ g
greatest_of_parts row first g gcd greatest d in_nums in_limit in_den = greatest d (gcd.2 d in_limit in_den) in_nums

-- a divisor of a part, times g, divides the whole
part_divides : (d g : ℕ) (whole part : ℤ) → whole ≡ part *ℤ pos g → d ∣ unsigned_abs part → d * g ∣ unsigned_abs whole
part_divides d g whole part is h =
    let size : unsigned_abs part * g ≡ unsigned_abs whole = sym (ap unsigned_abs is ∙ unsigned_abs-mul part (pos g)) in
    subst (λ (n : ℕ). d * g ∣ n) size (mul-dvd-mul_right d h g)

-- divided by the greatest common divisor a row has none
pub reduced_row : (row tight : RowDef) (g : ℕ) → 0 < g → ((k : ℕ) → number_at row.nums k ≡ number_at tight.nums k *ℤ pos g)
    → row.limit ≡ tight.limit *ℤ pos g → row.den ≡ tight.den *ℤ pos g
    → ((d : ℕ) → DividesEach d row.nums → d ∣ unsigned_abs row.limit → d ∣ unsigned_abs row.den → d ∣ g) → IsReduced tight
reduced_row row tight g above nums limit den greatest = record {
  none = λ d in_nums in_limit in_den.
      let whole : d * g ∣ g =
      greatest (d * g) (λ k. part_divides d g (number_at row.nums k) (number_at tight.nums k) (nums k) (in_nums k))
      (part_divides d g row.limit tight.limit limit in_limit) (part_divides d g row.den tight.den den in_den) in
      let once : g ≡ 1 * g = omega arith in
      eq-one_of_dvd-one (dvd_of_mul-dvd-mul_right d above (subst (λ (n : ℕ). d * g ∣ n) once whole));
}

-- where the code finds 1 the row has none as it is
pub reduced_already : (row : RowDef) (g : ℕ) → g ≡ 1
    → ((d : ℕ) → DividesEach d row.nums → d ∣ unsigned_abs row.limit → d ∣ unsigned_abs row.den → d ∣ g) → IsReduced row
reduced_already row g one greatest = record {
  none = λ d in_nums in_limit in_den. eq-one_of_dvd-one (subst (λ (n : ℕ). d ∣ n) one (greatest d in_nums in_limit in_den));
}

-- what is attained by the limit or by a number listed is a size of the pivot
pub attained_in_pivot : (pivot : PivotDef) (most first : ℕ) → AreSparse pivot.entries → first ≡ unsigned_abs pivot.limit
    → ((most ≡ first) ⊎ ((j : ℕ) × (j < length pivot.entries) × (unsigned_abs (entry_at pivot.entries j).num ≡ most)))
    → IsSizeInPivot pivot most
attained_in_pivot pivot most first sparse limit (inl here) = inr (sym (here ∙ limit))
attained_in_pivot pivot most first sparse limit (inr there) =
    let place = (entry_at pivot.entries there.0).place in
    inl (place, ap unsigned_abs (listed_entry pivot.entries there.0 place sparse.rise there.1 refl) ∙ there.2)

-- the second try is one on the row without common divisors
pub too_large : (row reduced : RowDef) (k most : ℕ) (pivot : PivotDef) → IsSameRow row reduced → IsReduced reduced → IsSizeIn reduced most
    → IsPast reduced k most pivot → IsTooLarge row k pivot
too_large row reduced k most pivot same lowest attained h = record {
  reduced = reduced;
  same = same;
  lowest = lowest;
  f = h.f;
  p = h.p;
  factor = h.factor;
  apart = h.apart;
  size = most;
  is_size = attained;
  other = h.other;
  is_other = h.is_other;
  large = h.large;
}
