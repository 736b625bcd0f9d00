-- Lowest terms: each small fraction has them, once, and their sign is its own.
use Rattle.std.proofs.Common.{◌≡◌, ℕ, ◌/◌, ◌^◌, ◌<◌, ◌≤◌, ℤ, pos, ◌*ℤ◌, ◌≤ℤ◌, ◌<ℤ◌, unsigned_abs, ap, ◌∙◌, sym, refl, arith}
use Rattle.std.specs.Int.{IsGcd}
use Rattle.std.proofs.lemmas.Int.{ints, by_lt_z}
use Rattle.std.proofs.Math.Nat.{div-le_self}
use lib.Signed.{clash_ℤ}
use Rattle.number_laws.proofs.Order.{cancel}
use Rattle.number_laws.proofs.Ring.{mul-swap_last, zero-mul}
use Rattle.number_laws.proofs.Divisors.{gcd_exists}
use Rattle.fraction128.specs.Fraction.{Fraction, IsForm, over, whole}
use Rattle.fraction128.specs.LowestTerms.{IsLowest, signed}
use Rattle.fraction128.proofs.Unique.{size_positive, apart_of_positive, one_over}
use Rattle.fraction128.proofs.Reduced.{reduced, value_kept, form_of_lowest}
use Rattle.fraction128.proofs.Forms.{form_of_negated, form_of_zero}
use Rattle.exchange_runs.specs.Readings.{minus}
use Rattle.exchange_runs.proofs.Shown.{Shows, shows_minus, shows_above, above_shown}
use Rattle.exchange_runs.specs.SmallRuns.{IsSmall, IsLowestOf}

-- Both parts of s divided by their greatest common divisor.
pub in_lowest_terms : Fraction → Fraction
in_lowest_terms s =
    let g : ℕ = (gcd_exists (unsigned_abs s.num) (unsigned_abs s.den)).0 in
    over (signed s.num (unsigned_abs s.num / g)) (pos (unsigned_abs s.den / g))

pub lowest : (s : Fraction) → IsSmall s → IsLowestOf s (in_lowest_terms s)
unfolding in_lowest_terms
lowest s small =
    let g : (g : ℕ) × IsGcd (unsigned_abs s.num) (unsigned_abs s.den) g = gcd_exists (unsigned_abs s.num) (unsigned_abs s.den) in
    let top : ℕ = unsigned_abs s.num / g.0 in
    let bottom : ℕ = unsigned_abs s.den / g.0 in
    let terms : IsLowest (unsigned_abs s.num) (unsigned_abs s.den) top bottom =
    reduced (unsigned_abs s.num) (unsigned_abs s.den) g.0 (size_positive s.den small.positive) g.1 in
    record {
      positive = small.positive;
      form = form_of_lowest s.num s.den top bottom terms
          (no_greater top (unsigned_abs s.num) (div-le_self (unsigned_abs s.num) g.0) small.small_num)
          (no_greater bottom (unsigned_abs s.den) (div-le_self (unsigned_abs s.den) g.0) small.small_den);
      same = record { same = value_kept s.num s.den top bottom (from_one s.den small.positive) terms };
    }
  where
    no_greater : (a b : ℕ) → a ≤ b → b < 2 ^ 63 → a < 2 ^ 63
    no_greater a b h k = omega arith

    from_one : (x : ℤ) → pos 0 <ℤ x → pos 1 ≤ℤ x
    from_one x h = omega (arith, ints)

-- What has a form is its own lowest terms.
pub lowest_of_form : (f : Fraction) → IsForm f → IsLowestOf f f
lowest_of_form f form = record { positive = form.positive; form = form; same = record { same = refl } }

pub small_of_form : (f : Fraction) → IsForm f → IsSmall f
small_of_form f form = record { positive = form.positive; small_num = form.small_num; small_den = form.small_den }

-- A fraction has one form in lowest terms.
pub one_lowest : (s f g : Fraction) → IsLowestOf s f → IsLowestOf s g → f ≡ g
one_lowest s f g h k = one_over s.num s.den f g (apart_of_positive s.den h.positive) h.form k.form h.same.same k.same.same

-- Lowest terms of s are the value of s.
pub lowest_shows : (s f : Fraction) → IsLowestOf s f → Shows s.den s.num f
lowest_shows s f h = record { same = h.same.same; positive = h.form.positive }

-- What s is the value of, its lowest terms are too.
pub lowest_shown : (d x : ℤ) (s f : Fraction) → Shows d x s → IsLowestOf s f → Shows d x f
lowest_shown d x s f shown h = record {
  same = cancel (f.num *ℤ d) (x *ℤ f.den) s.den h.positive
      (mul-swap_last f.num d s.den ∙ (ap (λ z. z *ℤ d) h.same.same
      ∙ (mul-swap_last s.num f.den d ∙ (ap (λ z. z *ℤ f.den) shown.same ∙ mul-swap_last x s.den f.den))));
  positive = h.form.positive;
}

-- They are above zero where s is, and only there.
pub above_lowest : (s f : Fraction) → IsLowestOf s f → pos 0 <ℤ s.num → pos 0 <ℤ f.num
above_lowest s f h above = above_shown s.den s.num f h.positive (lowest_shows s f h) above

pub above_of_lowest : (s f : Fraction) → IsLowestOf s f → pos 0 <ℤ f.num → pos 0 <ℤ s.num
above_of_lowest s f h above = shows_above s.den s.num f h.positive (lowest_shows s f h) above

pub at_most_zero_lowest : (s f : Fraction) → IsLowestOf s f → s.num ≤ℤ pos 0 → f.num ≤ℤ pos 0
at_most_zero_lowest s f h below = by_lt_z (pos 0) f.num (λ above. absurd (clash_ℤ (above_of_lowest s f h above) below)) (λ le. le)

-- Lowest terms of the fraction of the other sign are of the other sign.
pub minus_lowest : (s f : Fraction) → IsLowestOf s f → IsLowestOf (minus s) (minus f)
minus_lowest s f h = record {
  positive = h.positive;
  form = form_of_negated f.num f.den h.form;
  same = record { same = (shows_minus s.den s.num f (lowest_shows s f h)).same };
}

-- Zero over anything is zero.
pub zero_lowest : (s f : Fraction) → IsLowestOf s f → s.num ≡ pos 0 → f ≡ whole (pos 0)
zero_lowest s f h none = one_lowest s f (whole (pos 0)) h (record {
  positive = h.positive;
  form = form_of_zero;
  same = record { same = zero-mul s.den ∙ sym (ap (λ z. z *ℤ pos 1) none) };
})
