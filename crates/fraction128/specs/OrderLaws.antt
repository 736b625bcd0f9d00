-- The laws of the order of fractions, for `Ord` and `PartialOrd`. It is a total order. Two fractions are equal in it exactly if their parts
-- are the same.
use Rattle.std.specs.Prelude.{◌≡◌, ℕ, ◌≤◌, max, ℤ, pos, ◌<ℤ◌, Bool, true, false, ◌&&◌, unsigned_abs, refl}
use Rattle.std.specs.declared.cmp.Ordering.{Ordering}
use Rattle.std.specs.declared.cmp.Ordering.TheVariants.{Less, Equal, Greater}
use Rattle.std.specs.Ordering.{int_cmp, int_eq, is_eq, ordering_then}
use Rattle.std.specs.Cmp.{IsTotalOrder, both_ways}
use Rattle.std.proofs.Common.{ap, ap₂, ◌∙◌, sym, arith}
use Rattle.std.proofs.lemmas.Int.{ints}
use Rattle.std.proofs.lemmas.Bool.{false≢true}
use Rattle.std.proofs.lemmas.Cmp.{int_cmp_total, then_total, on_total, tied_itself}
use Rattle.number_laws.proofs.Comparison.{cross_total, same_of_equal}
use Rattle.fraction128.specs.Fraction.{Fraction, over}
use Rattle.fraction128.specs.Order.{weight_of, cross_cmp, parts_cmp, value_cmp}

weight_positive : (d : ℤ) → pos 0 <ℤ weight_of d
weight_positive d = at_least (max 1 (unsigned_abs d)) (omega arith)
  where
    at_least : (n : ℕ) → 1 ≤ n → pos 0 <ℤ pos n
    at_least n h = omega (arith, ints)

pub parts_are_total : IsTotalOrder parts_cmp
parts_are_total = then_total (on_total (λ (f : Fraction). f.num) int_cmp_total) (on_total (λ (f : Fraction). f.den) int_cmp_total)

pub value_is_total : IsTotalOrder value_cmp
value_is_total =
    then_total (cross_total (λ (f : Fraction). f.num) (λ (f : Fraction). weight_of f.den) (λ f. weight_positive f.den))
    parts_are_total

equal_of_level : (r : Ordering) → is_eq r ≡ true → r ≡ Equal
equal_of_level Less h = absurd (false≢true h)
equal_of_level Equal h = refl
equal_of_level Greater h = absurd (false≢true h)

both_equal : (r s : Ordering) → ordering_then r s ≡ Equal → (r ≡ Equal) × (s ≡ Equal)
both_equal Less s h = absurd (false≢true (ap is_eq h))
both_equal Equal s h = (refl, h)
both_equal Greater s h = absurd (false≢true (ap is_eq h))

both_true : (s t : Bool) → (s && t) ≡ true → (s ≡ true) × (t ≡ true)
both_true true t h = (refl, h)
both_true false t h = absurd (false≢true h)

-- two fractions are equal in the order exactly if their parts are the same
pub level_is_same : (a b : Fraction) → (int_eq a.num b.num && int_eq a.den b.den) ≡ is_eq (value_cmp a b)
level_is_same a b = both_ways _ _ (level a b) (same a b)
  where
    level : (f g : Fraction) → (int_eq f.num g.num && int_eq f.den g.den) ≡ true → is_eq (value_cmp f g) ≡ true
    level f g h =
        let parts : (int_eq f.num g.num ≡ true) × (int_eq f.den g.den ≡ true) = both_true _ _ h in
        let nums : f.num ≡ g.num = same_of_equal _ _ (equal_of_level _ parts.0) in
        let dens : f.den ≡ g.den = same_of_equal _ _ (equal_of_level _ parts.1) in
        let one : f ≡ g = ap₂ over nums dens in
        ap is_eq (ap (value_cmp f) (sym one) ∙ tied_itself value_is_total f)

    same : (f g : Fraction) → is_eq (value_cmp f g) ≡ true → (int_eq f.num g.num && int_eq f.den g.den) ≡ true
    same f g h =
        let parts : (cross_cmp f g ≡ Equal) × (parts_cmp f g ≡ Equal) = both_equal _ _ (equal_of_level _ h) in
        let each : (int_cmp f.num g.num ≡ Equal) × (int_cmp f.den g.den ≡ Equal) = both_equal _ _ parts.1 in
        ap₂ ◌&&◌ (ap is_eq each.0) (ap is_eq each.1)
