-- What the laws of the values say.
use Rattle.std.specs.Prelude.{◌≡◌}
use Rattle.fraction128.specs.Fraction.{Fraction, IsForm}

-- Is there at most one form that has the property?
abbrev pub HasOneForm : (Fraction → Type 0) → Type 0
HasOneForm is = (f g : Fraction) → IsForm f → IsForm g → is f → is g → f ≡ g
