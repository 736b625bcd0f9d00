-- What the steps on the numbers of a row are given.
use Rattle.std.specs.Prelude.{ℕ, ◌+◌, ◌*◌, ◌<◌, ◌≤◌, ◌^◌, List, length, ℤ, pos, ◌-ℤ◌, ◌*ℤ◌, ◌<ℤ◌, unsigned_abs}
use Rattle.whole_rows.specs.Rows.{RowDef, num_at, AreSparse, AreBelow, entry_at, listed_at}
use Rattle.whole_rows.specs.Numbers.{number_at, AreListedTo, DividesEach}
use Rattle.whole_rows.specs.declared.entries.Entry.{Entry}

-- Is the denominator above zero, and is the number's size at most 2^63 - 1?
pub record CanBeCancelled (num den : ℤ) : Type 0 where
  pub positive : pos 0 <ℤ den
  pub small : unsigned_abs num < 2 ^ 63

-- Is `by` above zero, and does it divide each number?
pub record CanDivideEach (nums : List ℤ) (by : ℤ) : Type 0 where
  pub positive : pos 0 <ℤ by
  pub divisor : DividesEach (unsigned_abs by) nums

-- Do the places from `first` up to `last` have numbers, and do these fit, multiplied by `by`?
pub record CanMultiply (first last : ℕ) (nums : List ℤ) (by : ℤ) : Type 0 where
  pub order : first ≤ last
  pub within : last ≤ length nums
  pub room : (k : ℕ) → first ≤ k → unsigned_abs (number_at nums k *ℤ by) < 2 ^ 63

-- Has each listed place a number? And does f times what is listed there fit, and what is left of the number without it?
pub record CanSubtract (nums : List ℤ) (f : ℤ) (entries : List Entry) : Type 0 where
  pub sparse : AreSparse entries
  pub below : AreBelow (length nums) entries
  pub products : (j : ℕ) → unsigned_abs (f *ℤ (entry_at entries j).num) < 2 ^ 63
  pub room : (k : ℕ) → unsigned_abs (number_at nums k -ℤ (f *ℤ listed_at entries k)) < 2 ^ 63

-- Have place k and each listed place a number? And do the sizes of p times a number and f times what is listed at its place, added, fit?
pub record CanTakeFrom (nums : List ℤ) (k : ℕ) (p f : ℤ) (entries : List Entry) : Type 0 where
  pub place : k < length nums
  pub sparse : AreSparse entries
  pub below : AreBelow (length nums) entries
  pub room : (j : ℕ) → unsigned_abs (number_at nums j) * unsigned_abs p + unsigned_abs f * unsigned_abs (listed_at entries j) < 2 ^ 63

-- Are the nonzero numbers before place `first` listed, and do the places from it up to `last` have numbers?
pub record CanListMore (first last : ℕ) (nums : List ℤ) (entries : List Entry) : Type 0 where
  pub order : first ≤ last
  pub within : last ≤ length nums
  pub earlier : AreListedTo first nums entries

-- Is the row's number at place k above zero?
pub record CanEnter (row : RowDef) (k : ℕ) : Type 0 where
  pub place : k < length row.nums
  pub above : pos 0 <ℤ num_at row k
