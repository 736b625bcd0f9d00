-- Fractions over one denominator: the least one that fits them all, and their numerators over it.
use Rattle.std.specs.Prelude.{◌≡◌, ℕ, ◌<◌, ◌≤◌, ◌^◌, ◌⊎◌, List, length, All, slice_index, slice_index_or, pos, ◌*ℤ◌}
use Rattle.std.specs.Prelude.{unsigned_abs, Result, Ok, Err}
use Rattle.std.specs.Int.{◌∣◌}
use Rattle.fraction128.specs.Fraction.{Fraction, whole}
use Rattle.fraction128.specs.declared.Wide.{Wide}

-- Is l a common multiple of the denominators of fs?
abbrev pub IsCommon : List Fraction → ℕ → Type 0
IsCommon fs l = All (λ f. unsigned_abs f.den ∣ l) fs

-- Is l the least common denominator of fs? It is a common multiple of their denominators that divides every other one, and so is at most
-- every other one.
pub record IsLeastCommon (fs : List Fraction) (l : ℕ) : Type 0 where
  pub positive : 0 < l
  pub common : IsCommon fs l
  pub least : (k : ℕ) → IsCommon fs k → l ∣ k

-- Is k over l the value of f?
pub record IsScaled (l : ℕ) (f : Fraction) (k : ℕ) : Type 0 where
  pub same : pos k *ℤ f.den ≡ f.num *ℤ pos l

-- the fraction at a place of a list
abbrev pub fraction_at : List Fraction → ℕ → Fraction
fraction_at fs i = slice_index_or fs i (whole (pos 0))

-- Are ks over l the values of fs, one for each?
pub record AreScaled (l : ℕ) (fs : List Fraction) (ks : List ℕ) : Type 0 where
  pub len : length ks ≡ length fs
  pub each : (i : ℕ) → i < length fs → IsScaled l (fraction_at fs i) (slice_index ks i)

-- Does m fit as a common denominator of fs? It is from 1 to 2^63 - 1, and each number over it is from 0 to 2^63 - 1.
pub record Serves (m : ℕ) (fs : List Fraction) : Type 0 where
  pub positive : 0 < m
  pub small : m < 2 ^ 63
  pub common : IsCommon fs m
  pub each : (i : ℕ) → i < length fs → (k : ℕ) × (IsScaled m (fraction_at fs i) k) × (k < 2 ^ 63)

-- Is l, or a number of fs over l, above 2^63 - 1?
abbrev pub IsWideOver : ℕ → List Fraction → Type 0
IsWideOver l fs = (2 ^ 63 ≤ l)
    ⊎ ((i : ℕ) × (k : ℕ) × (i < length fs) × (IsScaled l (fraction_at fs i) k) × (2 ^ 63 ≤ k))

-- The least common denominator, or Wide exactly if it is above 2^63 - 1.
abbrev pub GivesCommon : Result ℕ Wide → List Fraction → Type 0
GivesCommon (Ok l) fs = IsLeastCommon fs l × (l < 2 ^ 63)
GivesCommon (Err w) fs = (l : ℕ) × (IsLeastCommon fs l) × (2 ^ 63 ≤ l)

-- The number over l, or Wide exactly if it is above 2^63 - 1.
abbrev pub GivesScaled : Result ℕ Wide → ℕ → Fraction → Type 0
GivesScaled (Ok k) l f = IsScaled l f k × (k < 2 ^ 63)
GivesScaled (Err w) l f = (k : ℕ) × (IsScaled l f k) × (2 ^ 63 ≤ k)
