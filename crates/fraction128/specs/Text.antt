-- How a fraction is written.
use Rattle.std.specs.Prelude.{ℕ, List, ◌++◌, codes}
use Rattle.std.specs.Fmt.{signed_decimal}
use Rattle.fraction128.specs.Fraction.{Fraction}

-- NUM/DEN, both in decimal, with a minus sign before a numerator below 0
abbrev pub text_of : Fraction → List ℕ
text_of f = signed_decimal f.num ++ (codes "/" ++ signed_decimal f.den)
