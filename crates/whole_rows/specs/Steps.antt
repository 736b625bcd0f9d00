-- What does an exchange make of a row? Its cells are by places. The entering variable has place k, and the leaving one takes it over.
use Rattle.std.specs.Prelude.{◌≡◌, ◌≢◌, ℕ, length, Result, Ok, Err, pos}
use Rattle.fraction128.specs.Fraction.{Fraction, IsQuotient, whole}
use Rattle.exchange_runs.specs.Exchange.{IsLessOver}
use Rattle.exchange_runs.specs.SmallRuns.{IsSmall}
use Rattle.whole_rows.specs.Rows.{RowDef, cell_at, limit_of}
use Rattle.whole_rows.specs.declared.stops.Large.{Large}

-- Are all its cells small?
pub record AreSmallCells (row : RowDef) : Type 0 where
  pub cells : (k : ℕ) → IsSmall (cell_at row k)
  pub limit : IsSmall (limit_of row)

-- Is `divided` the row divided by its cell at k? At k it has 1 divided by that cell, for the variable that leaves.
pub record IsDividedRow (row : RowDef) (k : ℕ) (divided : RowDef) : Type 0 where
  pub as_many : length divided.nums ≡ length row.nums
  pub small : AreSmallCells divided
  pub own : IsQuotient (whole (pos 1)) (cell_at row k) (cell_at divided k)
  pub others : (j : ℕ) → j ≢ k → IsQuotient (cell_at row j) (cell_at row k) (cell_at divided j)
  pub limit : IsQuotient (limit_of row) (cell_at row k) (limit_of divided)

-- Is b what is left of a if f times y is subtracted, all over small fractions?
abbrev pub IsSmallLess : Fraction → Fraction → Fraction → Fraction → Type 0
IsSmallLess a f y b = IsLessOver IsSmall a f y b

-- Is `left` what is left of the row if its cell at k times the divided row is subtracted? At k it is subtracted from 0, the cell of the
-- variable that leaves.
pub record IsLeftRow (row : RowDef) (k : ℕ) (divided left : RowDef) : Type 0 where
  pub as_many : length left.nums ≡ length row.nums
  pub own : IsSmallLess (whole (pos 0)) (cell_at row k) (cell_at divided k) (cell_at left k)
  pub others : (j : ℕ) → j ≢ k → IsSmallLess (cell_at row j) (cell_at row k) (cell_at divided j) (cell_at left j)
  pub limit : IsSmallLess (limit_of row) (cell_at row k) (limit_of divided) (limit_of left)

-- What is left. `IsTooLarge` says when `Large` comes.
abbrev pub LeavesRow : Result (Unit {0}) Large → RowDef → ℕ → RowDef → RowDef → Type 0
LeavesRow (Ok u) row k divided left = IsLeftRow row k divided left
LeavesRow (Err large) row k divided left = Unit {0}
