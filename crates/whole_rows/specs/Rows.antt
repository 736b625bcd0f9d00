-- What contracts see of a row of whole numbers over one denominator, and of its nonzero numbers as a list.
use Rattle.std.specs.Prelude.{◌≡◌, ◌≢◌, ℕ, ◌<◌, ◌≤◌, ◌^◌, ◌==◌, if◌then◌else◌, List, [], ◌∷◌, map, length, slice_index_or, ℤ, pos}
use Rattle.std.specs.Prelude.{◌<ℤ◌, unsigned_abs}
use Rattle.std.specs.List.{range_with_len}
use Rattle.fraction128.specs.Fraction.{Fraction, over}
use Rattle.program_form.specs.SparseRows.{number_at}
use Rattle.program_form.specs.declared.sparse_rows.Coefficient.{Coefficient}
use Rattle.whole_rows.specs.declared.entries.Entry.{Entry}

-- A number for each place, and one for the limit, all over one denominator.
pub record RowDef : Type 0 where
  pub nums : List ℤ
  pub limit : ℤ
  pub den : ℤ

-- The row of these numbers and this limit, over `den`.
abbrev pub row_over : List ℤ → ℤ → ℤ → RowDef
row_over nums limit den = record { nums = nums; limit = limit; den = den }

-- The number at place k, and zero past the places.
abbrev pub num_at : RowDef → ℕ → ℤ
num_at row k = slice_index_or row.nums k (pos 0)

-- The fraction at place k.
abbrev pub cell_at : RowDef → ℕ → Fraction
cell_at row k = over (num_at row k) row.den

-- The limit as a fraction.
abbrev pub limit_of : RowDef → Fraction
limit_of row = over row.limit row.den

-- Is the denominator above zero, and no part of the row greater in size than a bound that fits?
pub record IsBounded (row : RowDef) (most : ℕ) : Type 0 where
  pub positive : pos 0 <ℤ row.den
  pub nums : (k : ℕ) → unsigned_abs (num_at row k) ≤ most
  pub limit : unsigned_abs row.limit ≤ most
  pub den : unsigned_abs row.den ≤ most
  pub fits : most < 2 ^ 63

-- The row of n places with these coefficients and this limit, over 1.
abbrev pub coefficient_row : ℕ → List Coefficient → ℕ → RowDef
coefficient_row n cs limit = record { nums = map (λ v. pos (number_at cs v)) (range_with_len 0 n); limit = pos limit; den = pos 1 }

-- The number at place k, and zero if k isn't listed.
abbrev pub listed_at : List Entry → ℕ → ℤ
listed_at [] k = pos 0
listed_at (e ∷ es) k = if e.place == k then e.num else listed_at es k

-- The row of n places with these numbers and this limit, over 1. A place that isn't listed has zero.
abbrev pub listed_row : ℕ → List Entry → ℤ → RowDef
listed_row n entries limit = record { nums = map (listed_at entries) (range_with_len 0 n); limit = limit; den = pos 1 }

-- The entry at index j of a list.
abbrev pub entry_at : List Entry → ℕ → Entry
entry_at entries j = slice_index_or entries j (record { place = 0; num = pos 0 })

-- Do the places rise, and is no number zero?
pub record AreSparse (entries : List Entry) : Type 0 where
  pub rise : (i j : ℕ) → i < j → j < length entries → (entry_at entries i).place < (entry_at entries j).place
  pub nonzero : (j : ℕ) → j < length entries → (entry_at entries j).num ≢ pos 0

-- Are all places below `end`?
abbrev pub AreBelow : ℕ → List Entry → Type 0
AreBelow end entries = (j : ℕ) → j < length entries → (entry_at entries j).place < end

-- The nonzero numbers of a row, its limit and its denominator.
pub record PivotDef : Type 0 where
  pub entries : List Entry
  pub limit : ℤ
  pub den : ℤ

-- Is it the pivot of the row?
pub record IsPivotOf (pivot : PivotDef) (row : RowDef) : Type 0 where
  pub sparse : AreSparse pivot.entries
  pub below : AreBelow (length row.nums) pivot.entries
  pub each : (k : ℕ) → listed_at pivot.entries k ≡ num_at row k
  pub limit : pivot.limit ≡ row.limit
  pub den : pivot.den ≡ row.den
