-- What is subtracted from a row that is kept by its nonzero numbers.
use Rattle.std.specs.Prelude.{◌≡◌, ◌≢◌, ◌⊎◌, ℕ, ◌+◌, ◌*◌, ◌<◌, ◌≤◌, ◌^◌, List, length, Option, Some, None, IfSome, ℤ, pos, ◌-ℤ◌, ◌*ℤ◌, unsigned_abs}
use Rattle.whole_rows.specs.Rows.{RowDef, PivotDef, num_at, listed_at, entry_at, AreSparse, AreBelow, IsBounded, IsPivotOf}
use Rattle.whole_rows.specs.PivotView.{IsBoundedPivot}
use Rattle.whole_rows.specs.Numbers.{IsCancelled}
use Rattle.whole_rows.specs.Steps.{IsLeftRow}
use Rattle.whole_rows.specs.declared.entries.Entry.{Entry}

-- Has the row a place k, and a place for each number that the pivot lists?
pub record CanTake (row : RowDef) (k : ℕ) (pivot : PivotDef) : Type 0 where
  pub place : k < length row.nums
  pub below : AreBelow (length row.nums) pivot.entries

-- Is f, a whole number, the row's cell at place k over the pivot's denominator? And is `bound` a bound, which fits, on what is left if f
-- times the pivot is subtracted?
pub record IsFactor (row : RowDef) (k : ℕ) (pivot : PivotDef) (f : ℤ) (bound : ℕ) : Type 0 where
  pub cut : IsCancelled (num_at row k) pivot.den f (pos 1)
  pub most : ℕ
  pub others : ℕ
  pub bounded : IsBounded row most
  pub pivot_bounded : IsBoundedPivot pivot others
  pub is : bound ≡ most * 1 + unsigned_abs f * others
  pub fits : bound < 2 ^ 63

-- Are the entries and the others in order, and below `end`? And do the sizes of a number and f times another, added, fit?
pub record CanSubtractListed (end : ℕ) (entries : List Entry) (f : ℤ) (others : List Entry) : Type 0 where
  pub sparse : AreSparse entries
  pub below : AreBelow end entries
  pub sparse_others : AreSparse others
  pub below_others : AreBelow end others
  pub room : (j : ℕ) → unsigned_abs (listed_at entries j) + unsigned_abs f * unsigned_abs (listed_at others j) < 2 ^ 63

-- Is each number what is left if f times the other one is subtracted? The number at place k counts as 0 before.
pub record AreLeft (end : ℕ) (entries : List Entry) (k : ℕ) (f : ℤ) (others after : List Entry) : Type 0 where
  pub sparse : AreSparse after
  pub below : AreBelow end after
  pub own : listed_at after k ≡ pos 0 -ℤ (f *ℤ listed_at others k)
  pub others_left : (j : ℕ) → j ≢ k → listed_at after j ≡ listed_at entries j -ℤ (f *ℤ listed_at others j)

-- Are all entries before index i at places below `from`, and all others not?
pub record ArePassed (entries : List Entry) (i from : ℕ) : Type 0 where
  pub within : i ≤ length entries
  pub before : (m : ℕ) → m < i → (entry_at entries m).place < from
  pub rest : (m : ℕ) → i ≤ m → m < length entries → from ≤ (entry_at entries m).place

-- What is left of the row if its cell at k times the divided row is subtracted. None says nothing.
abbrev pub LeavesShort : Option RowDef → RowDef → ℕ → PivotDef → Type 0
LeavesShort result row k pivot = IfSome result (λ left. (length left.nums ≡ length row.nums)
    × ((divided : RowDef) → IsPivotOf pivot divided → IsLeftRow row k divided left))

-- Is it the place of an entry at index i or of the other one at index j, and not behind either?
pub record IsNextPlace (entries : List Entry) (i : ℕ) (others : List Entry) (j place : ℕ) : Type 0 where
  pub own : i < length entries → place ≤ (entry_at entries i).place
  pub other : j < length others → place ≤ (entry_at others j).place
  pub here : ((i < length entries) × ((entry_at entries i).place ≡ place)) ⊎ ((j < length others) × ((entry_at others j).place ≡ place))

-- Is it the next place? None says that both lists end.
abbrev pub IsNext : Option ℕ → List Entry → ℕ → List Entry → ℕ → Type 0
IsNext None entries i others j = (length entries ≤ i) × (length others ≤ j)
IsNext (Some place) entries i others j = IsNextPlace entries i others j place

-- Do the places rise, are all entries before index i before this place, and no others?
pub record CanRead (entries : List Entry) (i place : ℕ) : Type 0 where
  pub sparse : AreSparse entries
  pub passed : ArePassed entries i place

-- Is it the number at the place, and `next` the index of the first entry behind it?
pub record IsRead (entries : List Entry) (i place : ℕ) (num : ℤ) (next : ℕ) : Type 0 where
  pub number : num ≡ listed_at entries place
  pub passed : ArePassed entries next (place + 1)
  pub order : i ≤ next
  pub step : i < length entries → (entry_at entries i).place ≡ place → i < next
