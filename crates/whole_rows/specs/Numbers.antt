-- What do the steps on the numbers of a row answer?
use Rattle.std.specs.Prelude.{◌≡◌, ◌≢◌, ◌⊎◌, ℕ, ◌<◌, ◌≤◌, List, map, take, length, slice_index_or, slice_set, ℤ, pos}
use Rattle.std.specs.Prelude.{◌-ℤ◌, ◌*ℤ◌, ◌<ℤ◌, unsigned_abs}
use Rattle.std.specs.Int.{◌∣◌}
use Rattle.program_form.specs.declared.sparse_rows.Coefficient.{Coefficient}
use Rattle.whole_rows.specs.Rows.{RowDef, num_at, AreSparse, AreBelow, entry_at, listed_at}
use Rattle.whole_rows.specs.declared.entries.Entry.{Entry}

-- The number at place k of a list, and zero past its end.
abbrev pub number_at : List ℤ → ℕ → ℤ
number_at nums k = slice_index_or nums k (pos 0)

-- Is no number greater in size than `most`?
abbrev pub AreWithin : ℕ → List ℤ → Type 0
AreWithin most nums = (k : ℕ) → unsigned_abs (number_at nums k) ≤ most

-- Is no listed number greater in size than `most`?
abbrev pub AreListedWithin : ℕ → List Entry → Type 0
AreListedWithin most entries = (j : ℕ) → unsigned_abs (entry_at entries j).num ≤ most

-- Is `most` the greatest size of the numbers, and of a first one?
pub record IsGreatestSize (nums : List ℤ) (start most : ℕ) : Type 0 where
  pub first : start ≤ most
  pub all : AreWithin most nums
  pub least : (n : ℕ) → start ≤ n → AreWithin n nums → most ≤ n
  pub attained : (most ≡ start) ⊎ ((k : ℕ) × (unsigned_abs (number_at nums k) ≡ most))

-- Is `most` the greatest size of the listed numbers, and of a first one?
pub record IsGreatestListed (entries : List Entry) (start most : ℕ) : Type 0 where
  pub first : start ≤ most
  pub all : AreListedWithin most entries
  pub least : (n : ℕ) → start ≤ n → AreListedWithin n entries → most ≤ n
  pub attained : (most ≡ start) ⊎ ((j : ℕ) × (j < length entries) × (unsigned_abs (entry_at entries j).num ≡ most))

-- Are these nonzero numbers of the list, in order of their places?
pub record AreFrom (nums : List ℤ) (entries : List Entry) : Type 0 where
  pub sparse : AreSparse entries
  pub below : AreBelow (length nums) entries
  pub own : (j : ℕ) → j < length entries → (entry_at entries j).num ≡ number_at nums (entry_at entries j).place

-- Is each number listed?
abbrev pub AreListed : List ℤ → List Entry → Type 0
AreListed nums entries = (k : ℕ) → listed_at entries k ≡ number_at nums k

-- A coefficient as an entry, at the place of its column.
abbrev pub entry_of : Coefficient → Entry
entry_of c = record { place = c.column; num = pos c.number }

-- Are these the first m coefficients?
abbrev pub AreFirst : ℕ → List Coefficient → List Entry → Type 0
AreFirst m cs entries = entries ≡ map entry_of (take m cs)

-- Are these the nonzero numbers of the places before `end`, in order of their places?
pub record AreListedTo (end : ℕ) (nums : List ℤ) (entries : List Entry) : Type 0 where
  pub sparse : AreSparse entries
  pub below : AreBelow end entries
  pub own : (j : ℕ) → j < length entries → (entry_at entries j).num ≡ number_at nums (entry_at entries j).place
  pub each : (k : ℕ) → k < end → listed_at entries k ≡ number_at nums k

-- Are the numbers from place `first` up to place `last` zero?
abbrev pub AreZeroBetween : List ℤ → ℕ → ℕ → Type 0
AreZeroBetween nums first last = (k : ℕ) → first ≤ k → k < last → number_at nums k ≡ pos 0

-- Do all these places have numbers, and are they zero?
pub record IsZeroBlock (nums : List ℤ) (first last : ℕ) : Type 0 where
  pub whole : last ≤ length nums
  pub zero : AreZeroBetween nums first last

-- Is f / p the fraction top / bottom with a common divisor removed?
pub record IsCancelled (top bottom f p : ℤ) : Type 0 where
  pub divisor : ℤ
  pub above : pos 0 <ℤ divisor
  pub positive : pos 0 <ℤ p
  pub top_is : top ≡ f *ℤ divisor
  pub bottom_is : bottom ≡ p *ℤ divisor

-- Does d divide each number?
abbrev pub DividesEach : ℕ → List ℤ → Type 0
DividesEach d nums = (k : ℕ) → d ∣ unsigned_abs (number_at nums k)

-- Is each number before a division `by` times what it is after?
pub record AreDivided (before : List ℤ) (by : ℤ) (after : List ℤ) : Type 0 where
  pub as_many : length after ≡ length before
  pub each : (k : ℕ) → number_at before k ≡ number_at after k *ℤ by

-- Is each number `by` times what it was?
pub record AreTimes (before : List ℤ) (by : ℤ) (after : List ℤ) : Type 0 where
  pub as_many : length after ≡ length before
  pub each : (k : ℕ) → number_at after k ≡ number_at before k *ℤ by

-- Is each number from place `first` up to place `last` `by` times what it was, and each other one as before?
pub record AreTimesBetween (first last : ℕ) (before : List ℤ) (by : ℤ) (after : List ℤ) : Type 0 where
  pub as_many : length after ≡ length before
  pub done : (k : ℕ) → first ≤ k → k < last → number_at after k ≡ number_at before k *ℤ by
  pub earlier : (k : ℕ) → k < first → number_at after k ≡ number_at before k
  pub rest : (k : ℕ) → last ≤ k → number_at after k ≡ number_at before k

-- Is each number what is left if f times the listed one is subtracted?
pub record AreLess (before : List ℤ) (f : ℤ) (entries : List Entry) (after : List ℤ) : Type 0 where
  pub as_many : length after ≡ length before
  pub each : (k : ℕ) → number_at after k ≡ number_at before k -ℤ (f *ℤ listed_at entries k)

-- Is each number p times what it was, less f times the listed one? The number at place k counts as 0 before.
pub record AreTaken (before : List ℤ) (k : ℕ) (p f : ℤ) (entries : List Entry) (after : List ℤ) : Type 0 where
  pub as_many : length after ≡ length before
  pub own : number_at after k ≡ pos 0 -ℤ (f *ℤ listed_at entries k)
  pub others : (j : ℕ) → j ≢ k → number_at after j ≡ (number_at before j *ℤ p) -ℤ (f *ℤ listed_at entries j)

-- Is it the row divided by a common divisor of its numbers, its limit and its denominator?
pub record IsSameRow (row tight : RowDef) : Type 0 where
  pub divisor : ℤ
  pub above : pos 0 <ℤ divisor
  pub nums : AreDivided row.nums divisor tight.nums
  pub limit : row.limit ≡ tight.limit *ℤ divisor
  pub den : row.den ≡ tight.den *ℤ divisor

-- The row after the number at place k and the denominator are swapped.
abbrev pub swapped : RowDef → ℕ → RowDef
swapped row k = record { nums = slice_set row.nums k row.den; limit = row.limit; den = num_at row k }
