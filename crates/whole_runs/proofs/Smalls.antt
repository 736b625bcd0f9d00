-- Values in an exchange: what is small, what is zero or one, and what nothing is taken from.
use Rattle.std.proofs.Common.{◌≡◌, ◌≢◌, ◌⊎◌, inl, inr, ℕ, zero, suc, ◌<◌, ◌^◌, ℤ, pos, negsuc, ◌-ℤ◌, ◌*ℤ◌, refl, ap, sym, ◌∙◌, arith}
use Rattle.std.proofs.lemmas.Int.{ints}
use Rattle.number_laws.proofs.Ring.{mul-one, mul-comm, mul-zero, zero-mul, one-mul}
use Rattle.fraction128.specs.Fraction.{Fraction, IsQuotient, IsProduct, IsDifference, whole}
use Rattle.exchange_runs.specs.Exchange.{IsLessOver}
use Rattle.exchange_runs.specs.SmallRuns.{IsSmall}

pub small_zero : IsSmall (whole (pos 0))
small_zero = record { positive = omega (arith, ints); small_num = omega arith; small_den = omega arith }

pub small_one : IsSmall (whole (pos 1))
small_one = record { positive = omega (arith, ints); small_num = omega arith; small_den = omega arith }

pub small_whole : (n : ℕ) → n < 2 ^ 63 → IsSmall (whole (pos n))
small_whole n l = record { positive = omega (arith, ints); small_num = l; small_den = omega arith }

pub zero_or_not : (z : ℤ) → (z ≡ pos 0) ⊎ (z ≢ pos 0)
zero_or_not (pos zero) = inl refl
zero_or_not (pos (suc n)) = inr (λ e. omega (arith, ints))
zero_or_not (negsuc n) = inr (λ e. omega (arith, ints))

-- a value over itself is one
pub one_of_same : (a : Fraction) → IsQuotient a a (whole (pos 1))
one_of_same a = record { same = one-mul (a.den *ℤ a.num) ∙ (mul-comm a.den a.num ∙ sym (mul-one (a.num *ℤ a.den))) }

-- and over one itself
pub over_one_same : (a : Fraction) → IsQuotient a (whole (pos 1)) a
over_one_same a = record { same = ap (λ x. a.num *ℤ x) (mul-one a.den) ∙ ap (λ x. x *ℤ a.den) (sym (mul-one a.num)) }

pub zero_over : (b : Fraction) → IsQuotient (whole (pos 0)) b (whole (pos 0))
zero_over b = record { same = zeros (pos 1 *ℤ b.num) b.den }
  where
    zeros : (x y : ℤ) → pos 0 *ℤ x ≡ (pos 0 *ℤ y) *ℤ pos 1
    zeros x y = omega (arith, ints)

no_product : (f y : Fraction) → f.num *ℤ y.num ≡ pos 0 → IsProduct f y (whole (pos 0))
no_product f y none = record { same = rw none (zeros (f.den *ℤ y.den) (pos 1)) }
  where
    zeros : (a b : ℤ) → pos 0 *ℤ a ≡ pos 0 *ℤ b
    zeros a b = omega (arith, ints)

less_nothing : (a : Fraction) → IsDifference a (whole (pos 0)) a
less_nothing a = record { same = nothing a.num a.den }
  where
    nothing : (n d : ℤ) → n *ℤ (d *ℤ pos 1) ≡ ((n *ℤ pos 1) -ℤ (pos 0 *ℤ d)) *ℤ d
    nothing n d = ap (λ x. n *ℤ x) (mul-one d) ∙ ap (λ x. x *ℤ d) (back n d)
      where
        back : (x y : ℤ) → x ≡ (x *ℤ pos 1) -ℤ (pos 0 *ℤ y)
        back x y = omega (arith, ints)

-- The lemmas that follow hold whatever values `IsCell` allows, if it allows those that they name.

-- If the product is zero, nothing is subtracted.
kept : (IsCell : Fraction → Type 0) → IsCell (whole (pos 0)) → (a f y : Fraction) → f.num *ℤ y.num ≡ pos 0 → IsCell a
    → IsLessOver IsCell a f y a
kept IsCell zero_cell a f y none is = record {
  product = whole (pos 0);
  product_form = zero_cell;
  is_product = no_product f y none;
  form = is;
  is_difference = less_nothing a;
}

pub less_of_zero : (IsCell : Fraction → Type 0) → IsCell (whole (pos 0)) → (a f y : Fraction) → f.num ≡ pos 0 → IsCell a
    → IsLessOver IsCell a f y a
less_of_zero IsCell zero_cell a f y none is = kept IsCell zero_cell a f y (ap (λ x. x *ℤ y.num) none ∙ zero-mul y.num) is

pub less_at_zero : (IsCell : Fraction → Type 0) → IsCell (whole (pos 0)) → (a f : Fraction) → IsCell a
    → IsLessOver IsCell a f (whole (pos 0)) a
less_at_zero IsCell zero_cell a f is = kept IsCell zero_cell a f (whole (pos 0)) (mul-zero f.num) is

-- A value less itself times one is zero.
pub less_itself : (IsCell : Fraction → Type 0) → IsCell (whole (pos 0)) → (a : Fraction) → IsCell a
    → IsLessOver IsCell a a (whole (pos 1)) (whole (pos 0))
less_itself IsCell zero_cell a is = record {
  product = a;
  product_form = is;
  is_product = record { same = ap (λ x. a.num *ℤ x) (mul-one a.den) ∙ ap (λ x. x *ℤ a.den) (sym (mul-one a.num)) };
  form = zero_cell;
  is_difference = record { same = gone (a.num *ℤ a.den) (a.den *ℤ a.den) };
}
  where
    gone : (x y : ℤ) → pos 0 *ℤ y ≡ (x -ℤ x) *ℤ pos 1
    gone x y = omega (arith, ints)

-- Where the factor is zero, zero stays zero over any denominator.
pub zero_less : (IsCell : Fraction → Type 0) → IsCell (whole (pos 0)) → (f y : Fraction) → f.num ≡ pos 0 → IsCell f
    → IsLessOver IsCell (whole (pos 0)) f y f
zero_less IsCell zero_cell f y none is = record {
  product = whole (pos 0);
  product_form = zero_cell;
  is_product = no_product f y (ap (λ x. x *ℤ y.num) none ∙ zero-mul y.num);
  form = is;
  is_difference = record { same = rw none (gone f.den) };
}
  where
    gone : (d : ℤ) → pos 0 *ℤ (pos 1 *ℤ pos 1) ≡ ((pos 0 *ℤ pos 1) -ℤ (pos 0 *ℤ pos 1)) *ℤ d
    gone d = omega (arith, ints)
