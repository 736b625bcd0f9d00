-- What does an operation of `Frac` answer?
use Rattle.std.specs.Prelude.{◌⊎◌, Result, Ok, Err}
use Rattle.fraction128.specs.Fraction.{Fraction, IsForm, IsProduct, IsDifference}
use Rattle.fraction128.specs.declared.Wide.{Wide}

-- Is the value one that no `Frac` can hold?
abbrev pub HasNoForm : (Fraction → Type 0) → Type 0
HasNoForm is = (f : Fraction) → IsForm f → is f → ⊥

-- The exact value in lowest terms, or Wide exactly if it doesn't fit.
abbrev pub Gives : Result Fraction Wide → (Fraction → Type 0) → Type 0
Gives (Ok f) is = IsForm f × is f
Gives (Err w) is = HasNoForm is

-- Has the product no form, or has what is left of a after the product is subtracted none?
abbrev pub IsWideLess : Fraction → Fraction → Fraction → Type 0
IsWideLess a f y =
    HasNoForm (IsProduct f y) ⊎ ((product : Fraction) × (IsForm product) × (IsProduct f y product) × HasNoForm (IsDifference a product))
