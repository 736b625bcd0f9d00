-- Bounds on the numbers of a row, and what is subtracted from it within them.
use Rattle.std.specs.Prelude.{◌≡◌, ℕ, ◌+◌, ◌*◌, ◌<◌, ◌≤◌, ◌^◌, length, Option, IfSome, IfNone, Result, OnErr, ℤ, unsigned_abs}
use Rattle.whole_rows.specs.Rows.{RowDef, PivotDef, AreBelow, IsBounded, IsPivotOf}
use Rattle.whole_rows.specs.Large.{IsReducedTo, IsSizeIn, IsPast}
use Rattle.whole_rows.specs.Steps.{LeavesRow}
use Rattle.whole_rows.specs.declared.stops.Large.{Large}

-- Is it the row without common divisors, and `most` the greatest size in it?
pub record IsTightened (row tight : RowDef) (most : ℕ) : Type 0 where
  pub reduced : IsReducedTo row tight
  pub bounded : IsBounded tight most
  pub attained : IsSizeIn tight most

-- Have place k and each one that the pivot lists a number, and is `most` a bound on the row?
pub record CanTakeWithin (row : RowDef) (k most : ℕ) (pivot : PivotDef) : Type 0 where
  pub place : k < length row.nums
  pub below : AreBelow (length row.nums) pivot.entries
  pub bounded : IsBounded row most

-- What is left of the row. If the bound on that doesn't fit, the row stays.
pub record TakesWithin (result : Result (Unit {0}) Large) (row : RowDef) (k most : ℕ) (pivot : PivotDef) (after : RowDef) : Type 0 where
  pub left : (divided : RowDef) → IsPivotOf pivot divided → LeavesRow result row k divided after
  pub as_many : length after.nums ≡ length row.nums
  pub stays : OnErr result (after ≡ row)
  pub large : OnErr result (IsPast row k most pivot)

-- Is it the bound on numbers times p less f times others, if `most` and `others` bound both? None says that it is above 2^63 - 1.
pub record IsBoundAfter (result : Option ℕ) (most : ℕ) (p f : ℤ) (others : ℕ) : Type 0 where
  pub value : IfSome result (λ bound. bound ≡ most * unsigned_abs p + unsigned_abs f * others)
  pub fits : IfSome result (λ bound. bound < 2 ^ 63)
  pub large : IfNone result (2 ^ 63 ≤ most * unsigned_abs p + unsigned_abs f * others)
