-- What dividing by the greatest common divisor makes of a fraction.
use Rattle.std.proofs.Common.{◌≡◌, ℕ, zero, suc, ◌*◌, ◌/◌, ◌<◌, ◌^◌, ℤ, pos, negsuc, ◌*ℤ◌, ◌≤ℤ◌, ◌<ℤ◌}
use Rattle.std.proofs.Common.{unsigned_abs, ap, ◌∙◌, sym, subst, refl, arith}
use Rattle.std.proofs.Math.Nat.{eq_of_mul-eq-mul_right}
use Rattle.std.specs.Int.{IsGcd, ◌∣◌}
use Rattle.std.proofs.lemmas.Int.{ints, unsigned_abs-mul}
use Rattle.std.proofs.Math.Nat.{eq-one_of_dvd-one, div-mul_cancel, pos_of_dvd_of_pos, dvd-mul_right}
use Rattle.number_laws.proofs.Order.{above_zero}
use Rattle.number_laws.specs.Divisors.{IsCoprime}
use Rattle.number_laws.proofs.Divisors.{parts_apart, coprime_of_gcd, lowest_terms_once}
use Rattle.fraction128.specs.Fraction.{Fraction, IsForm, IsSame, over}
use Rattle.fraction128.specs.LowestTerms.{IsLowest, signed}
use Rattle.fraction128.proofs.Unique.{size_positive}

pub gcd_positive : (a b g : ℕ) → 0 < b → IsGcd a b g → 0 < g
gcd_positive a b g pb h = pos_of_dvd_of_pos h.1 pb

pub reduced : (a b g : ℕ) → 0 < b → IsGcd a b g → IsLowest a b (a / g) (b / g)
reduced a b g pb h =
    let whole_a : a / g * g ≡ a = div-mul_cancel g h.0 in
    let whole_b : b / g * g ≡ b = div-mul_cancel g h.1 in
    let part : b / g ∣ b = subst (λ (n : ℕ). b / g ∣ n) whole_b (dvd-mul_right (b / g) g) in
    record {
      same = ap (λ n. a / g * n) (sym whole_b) ∙ (omega arith ∙ ap (λ n. n * (b / g)) whole_a);
      positive = pos_of_dvd_of_pos part pb;
      lowest = coprime_of_gcd _ _ (parts_apart a b g (gcd_positive a b g pb h) h);
    }

pub size-signed : (n : ℤ) (m : ℕ) → unsigned_abs (signed n m) ≡ m
size-signed (pos k) m = refl
size-signed (negsuc k) zero = refl
size-signed (negsuc k) (suc m) = refl

-- lowest terms of the sizes, with the sign put back, are the value
pub value_kept : (n d : ℤ) (top bottom : ℕ) → pos 1 ≤ℤ d → IsLowest (unsigned_abs n) (unsigned_abs d) top bottom
    → signed n top *ℤ d ≡ n *ℤ pos bottom
value_kept (pos n) (pos d) top bottom h l = omega (arith, ints, l.same)
value_kept (negsuc n) (pos d) zero bottom h l = omega (arith, ints, l.same)
value_kept (negsuc n) (pos d) (suc top) bottom h l = omega (arith, ints, l.same)
value_kept n (negsuc d) top bottom h l = absurd (omega (arith, ints))

pub form_of_lowest : (n d : ℤ) (top bottom : ℕ) → IsLowest (unsigned_abs n) (unsigned_abs d) top bottom → top < 2 ^ 63
    → bottom < 2 ^ 63 → IsForm (over (signed n top) (pos bottom))
form_of_lowest n d top bottom l small_top small_bottom =
    let size : unsigned_abs (signed n top) ≡ top = size-signed n top in
    record {
      positive = above_zero bottom l.positive;
      small_num = omega arith;
      small_den = small_bottom;
      lowest = subst (λ (m : ℕ). IsCoprime m bottom) (sym size) l.lowest;
    }

-- the sizes of a value: lowest terms that don't fit leave no form
pub no_form : (n d : ℤ) (top bottom : ℕ) → pos 1 ≤ℤ d → IsLowest (unsigned_abs n) (unsigned_abs d) top bottom
    → ((top < 2 ^ 63) × (bottom < 2 ^ 63) → ⊥) → (f : Fraction) → IsForm f → IsSame (over n d) f → ⊥
no_form n d top bottom above l wide f form is =
    let sizes : unsigned_abs f.num * unsigned_abs d ≡ unsigned_abs n * unsigned_abs f.den =
    sym (unsigned_abs-mul f.num d) ∙ (ap unsigned_abs is.same ∙ unsigned_abs-mul n f.den) in
    let cross : top * unsigned_abs f.den ≡ unsigned_abs f.num * bottom =
    crossed _ _ _ _ _ _ (size_positive d (positive_of d above)) sizes l.same in
    let once : (top ≡ unsigned_abs f.num) × (bottom ≡ unsigned_abs f.den) =
    lowest_terms_once top bottom (unsigned_abs f.num) (unsigned_abs f.den) l.positive
    (size_positive f.den form.positive) l.lowest form.lowest cross in
    wide (rw once.0 form.small_num, rw once.1 form.small_den)
  where
    positive_of : (z : ℤ) → pos 1 ≤ℤ z → pos 0 <ℤ z
    positive_of z h = omega (arith, ints)

    crossed : (fn fd n d top bottom : ℕ) → 0 < d → fn * d ≡ n * fd → top * d ≡ n * bottom → top * fd ≡ fn * bottom
    crossed fn fd n d top bottom pd p q = eq_of_mul-eq-mul_right d pd (top * fd) (fn * bottom) (omega (arith, ap (λ m. m * bottom) p, ap (λ m. m * fd) q))

pub reduced_by_one : (a b g : ℕ) → 0 < b → g ≡ 1 → IsGcd a b g → IsLowest a b a b
reduced_by_one a b g pb one h =
    record { same = refl; positive = pb; lowest = coprime_of_gcd a b (subst (λ (n : ℕ). IsGcd a b n) one h) }

-- a whole number is in lowest terms
pub whole_is_lowest : (a b : ℕ) → b ≡ 1 → IsLowest a b a b
whole_is_lowest a b one =
    record { same = refl; positive = omega arith; lowest = λ d p q. eq-one_of_dvd-one (subst (λ (n : ℕ). d ∣ n) one q) }
