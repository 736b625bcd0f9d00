-- What do the parts of an exchange answer? The parameter `IsCell` says which values a cell of a row may have.
use Rattle.std.specs.Prelude.{◌≡◌, ◌≢◌, ℕ, ◌<◌, List, length, Some, None, pos}
use Rattle.std.specs.declared.option.Option.{Option}
use Rattle.fraction128.specs.Fraction.{Fraction, IsQuotient, whole}
use Rattle.program_form.specs.Program.{ProgramDef, columns, height}
use Rattle.exchange_runs.specs.Table.{Table}
use Rattle.exchange_runs.specs.Exchange.{IsEntering, IsLast, HasRatio, IsLeavingOver, IsLessOver}
use Rattle.exchange_runs.specs.SmallRuns.{IsSmall}
use Rattle.whole_rows.specs.Rows.{RowDef, limit_of, cell_at}
use Rattle.whole_runs.specs.States.{row_at, cell_seen, limit_seen, stand_at, table_seen, HasPlaces}
use Rattle.whole_runs.specs.declared.stands.Stand.{Stand}
use Rattle.whole_runs.specs.declared.stands.Stand.TheVariants.{Outside}

-- The entering variable with its place, or None if the table is the last.
abbrev pub Enters : Option (ℕ × ℕ) → ProgramDef → List (Option RowDef) → List ℕ → List Stand → Type 0
Enters (Some e) p rows basis stands = IsEntering p (table_seen p rows basis stands) e.0 × (stand_at stands e.0 ≡ Outside e.1)
Enters None p rows basis stands = IsLast p (table_seen p rows basis stands)

-- The row that leaves, or None if no row has a ratio.
abbrev pub Leaves : Option ℕ → ProgramDef → Table → ℕ → Type 0
Leaves (Some r) p t e = IsLeavingOver IsSmall p t e r
Leaves None p t e = (i : ℕ) → i < height p → HasRatio t e i → ⊥

-- Are these values allowed: its cell at each place, and its limit?
pub record HasCells (IsCell : Fraction → Type 0) (row : RowDef) : Type 0 where
  pub cells : (k : ℕ) → IsCell (cell_at row k)
  pub limit : IsCell (limit_of row)

-- Is `left` what is left of row i if its cell at k times the divided row is subtracted?
pub record IsLeftOver (IsCell : Fraction → Type 0) (p : ProgramDef) (i : ℕ) (row : Option RowDef) (k : ℕ) (divided : RowDef)
    (left : Option RowDef) : Type 0 where
  pub own : IsLessOver IsCell (whole (pos 0)) (cell_seen p row i k) (cell_at divided k) (cell_seen p left i k)
  pub others : (j : ℕ) → j ≢ k → IsLessOver IsCell (cell_seen p row i j) (cell_seen p row i k) (cell_at divided j) (cell_seen p left i j)
  pub limit : IsLessOver IsCell (limit_seen p row i) (cell_seen p row i k) (limit_of divided) (limit_seen p left i)

-- Is row r divided by its cell at k? At k it has 1 divided by that cell, for the variable that leaves.
pub record IsDividedOver (IsCell : Fraction → Type 0) (p : ProgramDef) (r : ℕ) (row : Option RowDef) (k : ℕ) (divided : RowDef)
    : Type 0 where
  pub cells : HasCells IsCell divided
  pub own : IsQuotient (whole (pos 1)) (cell_seen p row r k) (cell_at divided k)
  pub others : (j : ℕ) → j ≢ k → IsQuotient (cell_seen p row r j) (cell_seen p row r k) (cell_at divided j)
  pub limit : IsQuotient (limit_seen p row r) (cell_seen p row r k) (limit_of divided)

-- Are the values of each row allowed?
pub record AreCells (IsCell : Fraction → Type 0) (p : ProgramDef) (rows : List (Option RowDef)) : Type 0 where
  pub cells : (i k : ℕ) → i < length rows → IsCell (cell_seen p (row_at rows i) i k)
  pub limits : (i : ℕ) → i < length rows → IsCell (limit_seen p (row_at rows i) i)

-- Is it row i as a row of its own: has it a place for each column, the cells and the limit?
pub record IsTouched (p : ProgramDef) (i : ℕ) (seen : Option RowDef) (row : RowDef) : Type 0 where
  pub as_many : length row.nums ≡ columns p
  pub cells : (k : ℕ) → cell_at row k ≡ cell_seen p seen i k
  pub limit : limit_of row ≡ limit_seen p seen i

-- Is row r divided in this way, and has its cell at k times the new row r been subtracted from each other row?
pub record AreExchangedOver (IsCell : Fraction → Type 0) (p : ProgramDef) (before after : List (Option RowDef)) (k r : ℕ) : Type 0 where
  pub as_many : length after ≡ length before
  pub places : (i : ℕ) → i < length before → HasPlaces p i (row_at after i)
  pub row : RowDef
  pub here : IsTouched p r (row_at after r) row
  pub divided : IsDividedOver IsCell p r (row_at before r) k row
  pub taken : (i : ℕ) → i < length before → i ≢ r → IsLeftOver IsCell p i (row_at before i) k row (row_at after i)

-- The same over small fractions.
abbrev pub IsLeft : ProgramDef → ℕ → Option RowDef → ℕ → RowDef → Option RowDef → Type 0
IsLeft p i row k divided left = IsLeftOver IsSmall p i row k divided left

abbrev pub IsDivided : ProgramDef → ℕ → Option RowDef → ℕ → RowDef → Type 0
IsDivided p r row k divided = IsDividedOver IsSmall p r row k divided

abbrev pub AreSmallRows : ProgramDef → List (Option RowDef) → Type 0
AreSmallRows p rows = AreCells IsSmall p rows

abbrev pub AreExchanged : ProgramDef → List (Option RowDef) → List (Option RowDef) → ℕ → ℕ → Type 0
AreExchanged p before after k r = AreExchangedOver IsSmall p before after k r
