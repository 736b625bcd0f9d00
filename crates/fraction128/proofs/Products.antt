-- How large the products of two parts are.
use Rattle.std.proofs.Common.{◌≡◌, ◌*◌, ◌<◌, ◌≤◌, ◌-◌, ◌^◌, ℤ, pos, ◌+ℤ◌, ◌-ℤ◌, ◌*ℤ◌, neg_ℤ, ◌≤ℤ◌, ◌<ℤ◌, unsigned_abs}
use Rattle.std.proofs.Common.{FitsSigned, to_z, of_z, ap, ◌∙◌, sym, subst, false, arith, w64}
use Rattle.std.specs.Int.{w128}
use Rattle.std.proofs.lemmas.Int.{ints, unsigned_abs-mul, fits_signed_from_abs, to_z-of_z, by_lt_z}
use Rattle.std.proofs.Math.Nat.{mul-le-mul}
use lib.Signed.{lt_z}
use Rattle.number_laws.proofs.Ring.{mul-neg_left}
use Rattle.number_laws.proofs.Order.{times_positive}

pub small_product : (x y : ℤ) → unsigned_abs x < 2 ^ 63 → unsigned_abs y < 2 ^ 63 → unsigned_abs (x *ℤ y) < 2 ^ 126
small_product x y h k =
    let most_x : unsigned_abs x ≤ 2 ^ 63 - 1 = omega arith in
    let most_y : unsigned_abs y ≤ 2 ^ 63 - 1 = omega arith in
    let bound : unsigned_abs x * unsigned_abs y ≤ (2 ^ 63 - 1) * (2 ^ 63 - 1) = mul-le-mul most_x most_y in
    rw unsigned_abs-mul (omega arith)

pub fits_part : (x : ℤ) → unsigned_abs x < 2 ^ 63 → FitsSigned w64 x
fits_part x h = fits_signed_from_abs w64 x (omega arith)

pub fits_wide : (x : ℤ) → unsigned_abs x < 2 ^ 126 → FitsSigned w128 x
fits_wide x h = fits_signed_from_abs w128 x (omega arith)

pub positive_product : (x y : ℤ) → pos 0 <ℤ x → pos 0 <ℤ y → pos 1 ≤ℤ (x *ℤ y)
positive_product x y h k = from_zero _ (times_positive x y h k)
  where
    from_zero : (z : ℤ) → pos 0 <ℤ z → pos 1 ≤ℤ z
    from_zero z p = omega (arith, ints)

-- a part, read as 128 bits
pub part_read : (x : ℤ) → unsigned_abs x < 2 ^ 63 → to_z w128 (of_z w128 (to_z w64 (of_z w64 x))) ≡ x
part_read x h = ap (λ z. to_z w128 (of_z w128 z)) (to_z-of_z w64 x (fits_part x h)) ∙ to_z-of_z w128 x (fits_wide x (omega arith))

-- the code's product of two parts
pub product_read : (x y : ℤ) → unsigned_abs x < 2 ^ 63 → unsigned_abs y < 2 ^ 63 → to_z w128
    (of_z w128 (to_z w128 (of_z w128 (to_z w64 (of_z w64 x))) *ℤ to_z w128 (of_z w128 (to_z w64 (of_z w64 y)))))
    ≡ x *ℤ y
product_read x y h k = rw (part_read x h, part_read y k) (to_z-of_z w128 (x *ℤ y) (fits_wide (x *ℤ y) (small_product x y h k)))

-- a product, read as 128 bits, and sums and differences of two
pub wide_read : (x : ℤ) → unsigned_abs x < 2 ^ 126 → to_z w128 (of_z w128 x) ≡ x
wide_read x h = to_z-of_z w128 x (fits_wide x h)

pub sum_fits : (x y : ℤ) → unsigned_abs x < 2 ^ 126 → unsigned_abs y < 2 ^ 126 → FitsSigned w128 (x +ℤ y)
sum_fits x y h k = fits_signed_from_abs w128 (x +ℤ y) (omega (arith, ints))

pub sum_read : (x y : ℤ) → unsigned_abs x < 2 ^ 126 → unsigned_abs y < 2 ^ 126
    → to_z w128 (of_z w128 (to_z w128 (of_z w128 x) +ℤ to_z w128 (of_z w128 y))) ≡ x +ℤ y
sum_read x y h k = rw (wide_read x h, wide_read y k) (to_z-of_z w128 (x +ℤ y) (sum_fits x y h k))

pub difference_fits : (x y : ℤ) → unsigned_abs x < 2 ^ 126 → unsigned_abs y < 2 ^ 126 → FitsSigned w128 (x -ℤ y)
difference_fits x y h k = fits_signed_from_abs w128 (x -ℤ y) (omega (arith, ints))

pub difference_fits_read : (x y : ℤ) → unsigned_abs x < 2 ^ 126 → unsigned_abs y < 2 ^ 126
    → FitsSigned w128 (to_z w128 (of_z w128 x) -ℤ to_z w128 (of_z w128 y))
difference_fits_read x y h k = rw (wide_read x h, wide_read y k) (difference_fits x y h k)

pub difference_read : (x y : ℤ) → unsigned_abs x < 2 ^ 126 → unsigned_abs y < 2 ^ 126
    → to_z w128 (of_z w128 (to_z w128 (of_z w128 x) -ℤ to_z w128 (of_z w128 y))) ≡ x -ℤ y
difference_read x y h k = rw (wide_read x h, wide_read y k) (to_z-of_z w128 (x -ℤ y) (difference_fits x y h k))

-- the other sign of a product
pub negated_read : (x : ℤ) → unsigned_abs x < 2 ^ 126 → to_z w128 (of_z w128 (pos 0 -ℤ to_z w128 (of_z w128 x))) ≡ neg_ℤ x
negated_read x h =
    let fits : FitsSigned w128 (neg_ℤ x) = fits_signed_from_abs w128 (neg_ℤ x) (omega (arith, ints)) in
    let turned : pos 0 -ℤ x ≡ neg_ℤ x = omega (arith, ints) in
    rw (wide_read x h, turned) (to_z-of_z w128 (neg_ℤ x) fits)

-- where a product with a positive factor isn't above 0, and the other factor isn't 0, the product is below 0
pub negative_product : (n d x : ℤ) → (n ≡ pos 0 → ⊥) → pos 0 <ℤ d → x ≡ n *ℤ d → lt_z (pos 0) x ≡ false → pos 1 ≤ℤ neg_ℤ x
negative_product n d x apart positive is not_above =
    by_lt_z n (pos 0)
    (λ below.
    let other : pos 0 <ℤ neg_ℤ n = omega (arith, ints) in
    let there : pos 0 <ℤ (neg_ℤ n *ℤ d) = times_positive (neg_ℤ n) d other positive in
    let turned : neg_ℤ n *ℤ d ≡ neg_ℤ x = mul-neg_left n d ∙ ap neg_ℤ (sym is) in
    at_least _ (subst (λ (z : ℤ). pos 0 <ℤ z) turned there))
    (λ above.
    let over : pos 0 <ℤ n = strict n apart above in
    let there : pos 0 <ℤ x = subst (λ (z : ℤ). pos 0 <ℤ z) (sym is) (times_positive n d over positive) in
    absurd (clash x there not_above))
  where
    at_least : (z : ℤ) → pos 0 <ℤ z → pos 1 ≤ℤ z
    at_least z p = omega (arith, ints)

    strict : (z : ℤ) → (z ≡ pos 0 → ⊥) → pos 0 ≤ℤ z → pos 0 <ℤ z
    strict z p q = omega (arith, ints)

    clash : (z : ℤ) → pos 0 <ℤ z → lt_z (pos 0) z ≡ false → ⊥
    clash z p q = omega (arith, ints)

-- a part, read as 64 bits, and its other sign
pub own_part_read : (x : ℤ) → unsigned_abs x < 2 ^ 63 → to_z w64 (of_z w64 x) ≡ x
own_part_read x h = to_z-of_z w64 x (fits_part x h)

pub negated_part_read : (x : ℤ) → unsigned_abs x < 2 ^ 63 → to_z w64 (of_z w64 (pos 0 -ℤ to_z w64 (of_z w64 x))) ≡ neg_ℤ x
negated_part_read x h =
    let fits : FitsSigned w64 (neg_ℤ x) = fits_signed_from_abs w64 (neg_ℤ x) (omega (arith, ints)) in
    let turned : pos 0 -ℤ x ≡ neg_ℤ x = omega (arith, ints) in
    rw (own_part_read x h, turned) (to_z-of_z w64 (neg_ℤ x) fits)
