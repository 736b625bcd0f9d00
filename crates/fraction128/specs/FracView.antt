-- What contracts see of a `Frac` as a fraction, and what every `Frac` keeps.
use Rattle.fraction128.specs.Fraction.{Fraction, IsForm}
use Rattle.fraction128.specs.declared.Frac.TheInside.{Inside}

abbrev pub frac_view : Inside → Fraction
frac_view f = record { num = f.num; den = f.den }

abbrev pub IsKept : Inside → Type 0
IsKept f = IsForm (frac_view f)
