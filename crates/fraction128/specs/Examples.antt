-- Worked examples of the definitions.
use Rattle.std.specs.Prelude.{pos, negsuc, refl}
use Rattle.fraction128.specs.Fraction.{IsSame, IsSum, IsDifference, IsProduct, IsQuotient, over, whole}

-- 0/7 is 0/1
zero : IsSame (over (pos 0) (pos 7)) (whole (pos 0))
zero = record { same = refl }

-- 1/3 + 1/6 = 1/2
sum : IsSum (over (pos 1) (pos 3)) (over (pos 1) (pos 6)) (over (pos 1) (pos 2))
sum = record { same = refl }

-- 1/2 - 2/3 = -1/6
difference : IsDifference (over (pos 1) (pos 2)) (over (pos 2) (pos 3)) (over (negsuc 0) (pos 6))
difference = record { same = refl }

-- 2^62 * 2/4 = 2^61
product : IsProduct (whole (pos 4611686018427387904)) (over (pos 2) (pos 4)) (whole (pos 2305843009213693952))
product = record { same = refl }

-- 1/2 / -3/4 = -2/3
quotient : IsQuotient (over (pos 1) (pos 2)) (over (negsuc 2) (pos 4)) (over (negsuc 1) (pos 3))
quotient = record { same = refl }
