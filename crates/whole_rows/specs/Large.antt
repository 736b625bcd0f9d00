-- When are numbers over a row's denominator too large for what is subtracted from the row?
use Rattle.std.specs.Prelude.{◌≡◌, ◌⊎◌, ℕ, ◌+◌, ◌*◌, ◌<◌, ◌≤◌, ◌^◌, List, ℤ, unsigned_abs}
use Rattle.std.specs.Int.{◌∣◌}
use Rattle.number_laws.specs.Divisors.{IsCoprime}
use Rattle.whole_rows.specs.Rows.{RowDef, PivotDef, num_at, listed_at}
use Rattle.whole_rows.specs.Numbers.{DividesEach, IsCancelled, IsSameRow}

-- Is n the size of a number of the row, of its limit or of its denominator?
abbrev pub IsSizeIn : RowDef → ℕ → Type 0
IsSizeIn row n = ((k : ℕ) × (unsigned_abs (num_at row k) ≡ n)) ⊎ ((unsigned_abs row.limit ≡ n) ⊎ (unsigned_abs row.den ≡ n))

-- Is n the size of a number that the pivot lists, or of its limit?
abbrev pub IsSizeInPivot : PivotDef → ℕ → Type 0
IsSizeInPivot pivot n = ((k : ℕ) × (unsigned_abs (listed_at pivot.entries k) ≡ n)) ⊎ (unsigned_abs pivot.limit ≡ n)

-- Have its numbers, its limit and its denominator no common divisor above 1?
pub record IsReduced (row : RowDef) : Type 0 where
  pub none : (d : ℕ) → DividesEach d row.nums → d ∣ unsigned_abs row.limit → d ∣ unsigned_abs row.den → d ≡ 1

-- Is it the row without common divisors?
pub record IsReducedTo (row tight : RowDef) : Type 0 where
  pub same : IsSameRow row tight
  pub lowest : IsReduced tight

-- Is `found` the greatest divisor that all numbers and a first one have in common, and is it above zero?
pub record IsGreatestCommon (nums : List ℤ) (start found : ℕ) : Type 0 where
  pub positive : 0 < found
  pub first : found ∣ start
  pub all : DividesEach found nums
  pub greatest : (d : ℕ) → d ∣ start → DividesEach d nums → d ∣ found

-- Is f / p the fraction top / bottom with all common divisors removed?
pub record AreLowestTerms (top bottom f p : ℤ) : Type 0 where
  pub form : IsCancelled top bottom f p
  pub apart : IsCoprime (unsigned_abs f) (unsigned_abs p)

-- Let f / p be the row's cell at k over the pivot's denominator, with all common divisors removed. Are `most` times p and some number of
-- the pivot times f together above 2^63 - 1?
pub record IsPast (row : RowDef) (k most : ℕ) (pivot : PivotDef) : Type 0 where
  pub f : ℤ
  pub p : ℤ
  pub factor : IsCancelled (num_at row k) pivot.den f p
  pub apart : IsCoprime (unsigned_abs f) (unsigned_abs p)
  pub other : ℕ
  pub is_other : IsSizeInPivot pivot other
  pub large : 2 ^ 63 ≤ most * unsigned_abs p + unsigned_abs f * other

-- Let f / p be the row's cell at k over the pivot's denominator, with all common divisors removed. Are some number of the row times p and
-- some number of the pivot times f together above 2^63 - 1 in size?
pub record IsTooLarge (row : RowDef) (k : ℕ) (pivot : PivotDef) : Type 0 where
  pub reduced : RowDef
  pub same : IsSameRow row reduced
  pub lowest : IsReduced reduced
  pub f : ℤ
  pub p : ℤ
  pub factor : IsCancelled (num_at reduced k) pivot.den f p
  pub apart : IsCoprime (unsigned_abs f) (unsigned_abs p)
  pub size : ℕ
  pub is_size : IsSizeIn reduced size
  pub other : ℕ
  pub is_other : IsSizeInPivot pivot other
  pub large : 2 ^ 63 ≤ size * unsigned_abs p + unsigned_abs f * other
