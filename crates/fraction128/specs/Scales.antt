-- What does scaling a list to its least common denominator answer?
use Rattle.std.specs.Prelude.{ℕ, ◌<◌, ◌^◌, List, All, Result, Ok, Err}
use Rattle.fraction128.specs.Fraction.{Fraction}
use Rattle.fraction128.specs.Scaling.{IsLeastCommon, AreScaled, IsWideOver}
use Rattle.fraction128.specs.declared.scaling.Scaled.{Scaled}
use Rattle.fraction128.specs.declared.scaling.ScalingError.{ScalingError}
use Rattle.fraction128.specs.declared.scaling.ScalingError.TheVariants.{Memory, Wide}

-- The least common denominator and the numbers over it, each below 2^63; Wide exactly if one of them isn't. Only want of memory says
-- nothing.
abbrev pub Scales : Result Scaled ScalingError → List Fraction → Type 0
Scales (Ok s) fs = (IsLeastCommon fs s.den) × (AreScaled s.den fs s.num.items) × (s.den < 2 ^ 63) × (All (λ k. k < 2 ^ 63) s.num.items)
Scales (Err Memory) fs = Unit {0}
Scales (Err Wide) fs = (l : ℕ) × (IsLeastCommon fs l) × (IsWideOver l fs)
