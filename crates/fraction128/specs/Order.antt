-- The order of fractions by value. It is defined for every pair of whole numbers, so that the laws of an order need no premise. A
-- denominator that isn't positive counts by its size, and 0 counts as 1. Equal values are ordered by their parts. For two fractions that a
-- `Frac` can hold only the cross products matter.
use Rattle.std.specs.Prelude.{ℤ, pos, ◌*ℤ◌, max, unsigned_abs}
use Rattle.std.specs.declared.cmp.Ordering.{Ordering}
use Rattle.std.specs.Ordering.{int_cmp, on, then_cmp}
use Rattle.fraction128.specs.Fraction.{Fraction}

-- a positive denominator, as it is
abbrev pub weight_of : ℤ → ℤ
weight_of d = pos (max 1 (unsigned_abs d))

abbrev pub cross_cmp : Fraction → Fraction → Ordering
cross_cmp a b = int_cmp (a.num *ℤ weight_of b.den) (b.num *ℤ weight_of a.den)

abbrev pub parts_cmp : Fraction → Fraction → Ordering
parts_cmp = then_cmp (on (λ f. f.num) int_cmp) (on (λ f. f.den) int_cmp)

-- Which of two fractions is less?
abbrev pub value_cmp : Fraction → Fraction → Ordering
value_cmp = then_cmp cross_cmp parts_cmp
