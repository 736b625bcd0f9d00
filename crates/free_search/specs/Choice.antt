-- Which place enters, and which row leaves, said of numbers: the denominators of a ratio cancel.
use Rattle.std.specs.Prelude.{◌≡◌, ◌⊎◌, ℕ, ◌<◌, ◌≤◌, List, length, slice_index, Bool, true, false}
use Rattle.std.specs.Prelude.{Some, None, IfSome, ℤ, pos, ◌*ℤ◌, ◌≤ℤ◌, ◌<ℤ◌}
use Rattle.std.specs.declared.option.Option.{Option}
use Rattle.whole_rows.specs.Rows.{RowDef, num_at}
use Rattle.whole_rows.specs.Numbers.{number_at}
use Rattle.free_search.specs.Tables.{row_at}

-- Of the places whose number is above zero, has k the one with the least variable?
pub record IsLeastPlace (nums : List ℤ) (outside : List ℕ) (k : ℕ) : Type 0 where
  pub within : k < length nums
  pub above : pos 0 <ℤ number_at nums k
  pub least : (j : ℕ) → j < length nums → pos 0 <ℤ number_at nums j → slice_index outside k ≤ slice_index outside j

-- That place, or none if no number is above zero.
abbrev pub EntersAt : Option ℕ → List ℤ → List ℕ → Type 0
EntersAt (Some k) nums outside = IsLeastPlace nums outside k
EntersAt None nums outside = (j : ℕ) → j < length nums → number_at nums j ≤ℤ pos 0

-- Of the first n rows whose number at place k is above zero, has r the least ratio of its limit to that number? Among equal ratios, the one
-- with the least basic variable counts.
pub record IsLeastRow (n : ℕ) (rows : List RowDef) (basis : List ℕ) (k r : ℕ) : Type 0 where
  pub within : r < n
  pub above : pos 0 <ℤ num_at (row_at rows r) k
  pub least : (i : ℕ) → i < n → pos 0 <ℤ num_at (row_at rows i) k
      → ((row_at rows r).limit *ℤ num_at (row_at rows i) k) ≤ℤ ((row_at rows i).limit *ℤ num_at (row_at rows r) k)
  pub tie : (i : ℕ) → i < n → pos 0 <ℤ num_at (row_at rows i) k
      → ((row_at rows i).limit *ℤ num_at (row_at rows r) k) ≤ℤ ((row_at rows r).limit *ℤ num_at (row_at rows i) k)
      → slice_index basis r ≤ slice_index basis i

-- That row, or none if none of these rows has a number above zero there.
abbrev pub LeavesAmong : Option ℕ → ℕ → List RowDef → List ℕ → ℕ → Type 0
LeavesAmong (Some r) n rows basis k = IsLeastRow n rows basis k r
LeavesAmong None n rows basis k = (i : ℕ) → i < n → num_at (row_at rows i) k ≤ℤ pos 0

-- Is no limit below zero?
abbrev pub HaveLimits : List RowDef → Type 0
HaveLimits rows = (i : ℕ) → i < length rows → pos 0 ≤ℤ (row_at rows i).limit

-- Does row r come before row i: is its ratio less, or as great and its basic variable not greater?
pub record Precedes (rows : List RowDef) (basis : List ℕ) (k r i : ℕ) : Type 0 where
  pub least : ((row_at rows r).limit *ℤ num_at (row_at rows i) k) ≤ℤ ((row_at rows i).limit *ℤ num_at (row_at rows r) k)
  pub tie : ((row_at rows i).limit *ℤ num_at (row_at rows r) k) ≤ℤ ((row_at rows r).limit *ℤ num_at (row_at rows i) k)
      → slice_index basis r ≤ slice_index basis i

-- Which of two rows comes before the other?
abbrev pub Comes : Bool → List RowDef → List ℕ → ℕ → ℕ → ℕ → Type 0
Comes true rows basis k i j = Precedes rows basis k i j
Comes false rows basis k i j = Precedes rows basis k j i

-- Is this the one of two places whose variable is less? There may be no best one yet.
pub record IsLesser (before : Option ℕ) (j : ℕ) (outside : List ℕ) (k : ℕ) : Type 0 where
  pub one : (k ≡ j) ⊎ (before ≡ Some k)
  pub other : slice_index outside k ≤ slice_index outside j
  pub best : IfSome before (λ b. slice_index outside k ≤ slice_index outside b)

-- Is this the one of two rows that comes before the other? There may be no best one yet.
pub record IsEarlier (rows : List RowDef) (basis : List ℕ) (k : ℕ) (before : Option ℕ) (i r : ℕ) : Type 0 where
  pub one : (r ≡ i) ⊎ (before ≡ Some r)
  pub row : Precedes rows basis k r i
  pub best : IfSome before (λ b. Precedes rows basis k r b)
