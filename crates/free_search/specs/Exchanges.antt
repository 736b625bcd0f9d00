-- What an exchange makes of the rows.
use Rattle.std.specs.Prelude.{◌≡◌, ◌≢◌, ℕ, ◌<◌, ◌≤◌, List, length, slice_index, slice_set, Result, IfOk, OnOk}
use Rattle.std.specs.declared.alloc.AllocError.{AllocError}
use Rattle.whole_rows.specs.Rows.{RowDef, PivotDef, IsPivotOf}
use Rattle.free_search.specs.Tables.{row_at}
use Rattle.free_search.specs.Rows.{IsDividedRow, IsLeftRow}
use Rattle.free_search.specs.RowSteps.{IsTaken}
use Rattle.free_search.specs.declared.tableau.Tableau.{Tableau}

-- Are there as many rows as before, each of them but r as it was?
pub record OnlyRowChanges (before : List RowDef) (r : ℕ) (after : List RowDef) : Type 0 where
  pub as_many : length after ≡ length before
  pub others : (i : ℕ) → i ≢ r → row_at after i ≡ row_at before i

-- Is row r divided by its cell at k, and is this the pivot of what it became?
pub record DividesRow (before : List RowDef) (k r : ℕ) (after : List RowDef) (taken : PivotDef) : Type 0 where
  pub divided : IsDividedRow (row_at before r) k (row_at after r)
  pub pivot : IsPivotOf taken (row_at after r)

-- Is row r divided so and given as the pivot, unless memory runs out, and is no other row changed?
pub record DividesOnly (result : Result PivotDef AllocError) (before : List RowDef) (k r : ℕ) (after : List RowDef) : Type 0 where
  pub only : OnlyRowChanges before r after
  pub divided : IfOk result (DividesRow before k r after)

-- Is the pivot taken from row i, unless it is row r or memory runs out, and is no other row changed?
pub record TakesFrom (result : Result (Unit {0}) AllocError) (before : List RowDef) (i k r : ℕ) (pivot : PivotDef) (after : List RowDef)
    : Type 0 where
  pub only : OnlyRowChanges before i after
  pub own : i ≡ r → row_at after i ≡ row_at before i
  pub left : OnOk result (i ≢ r → IsTaken (row_at before i) k pivot (row_at after i))

-- Is each of the first n rows but r changed in this way, and are all others as they were?
pub record AreTakenTo (n : ℕ) (before after : List RowDef) (k r : ℕ) (pivot : PivotDef) : Type 0 where
  pub as_many : length after ≡ length before
  pub taken : (i : ℕ) → i < n → i ≢ r → IsTaken (row_at before i) k pivot (row_at after i)
  pub own : row_at after r ≡ row_at before r
  pub rest : (i : ℕ) → n ≤ i → row_at after i ≡ row_at before i

-- Is row r divided by its cell at k, and has its cell at k times the new row r been subtracted from each other row?
pub record AreExchanged (before after : List RowDef) (k r : ℕ) : Type 0 where
  pub as_many : length after ≡ length before
  pub divided : IsDividedRow (row_at before r) k (row_at after r)
  pub taken : (i : ℕ) → i < length before → i ≢ r → IsLeftRow (row_at before i) k (row_at after r) (row_at after i)

-- The rows after an exchange, with the divided row as the pivot.
abbrev pub ExchangesRows : List RowDef → List RowDef → ℕ → ℕ → PivotDef → Type 0
ExchangesRows before after k r pivot = (AreExchanged before after k r) × IsPivotOf pivot (row_at after r)

-- Is `after` the table after the exchange where the variable at place k enters and row r leaves?
pub record IsExchanged (before : Tableau) (k r : ℕ) (after : Tableau) : Type 0 where
  pub rows : AreExchanged before.rows.items after.rows.items k r
  pub objective : IsLeftRow before.objective k (row_at after.rows.items r) after.objective
  pub basis : after.basis.items ≡ slice_set before.basis.items r (slice_index before.outside.items k)
  pub outside : after.outside.items ≡ slice_set before.outside.items k (slice_index before.basis.items r)
