-- What do the parts of an exchange answer at all rows?
use Rattle.std.specs.Prelude.{◌≡◌, ◌≢◌, ◌⊎◌, ℕ, ◌+◌, ◌<◌, List, length, pos, Result, Ok, Err}
use Rattle.program_form.specs.Program.{ProgramDef, height}
use Rattle.exchange_runs.specs.Table.{variables}
use Rattle.exchange_runs.specs.Exchange.{IsEntering, IsExchange, IsLeaving}
use Rattle.exchange_runs.specs.Run.{Reached}
use Rattle.fraction128.specs.Gives.{IsWideLess}
use Rattle.exchange_runs.specs.WideExchange.{IsWideRatio, IsWideStep}
use Rattle.simplex.specs.Rows.{RowDef, places, cell_at}
use Rattle.simplex.specs.Tables.{row_of, table_of, HasSize}
use Rattle.simplex.specs.RowSteps.{IsDividedRow, IsLeftRow}
use Rattle.simplex.specs.declared.SolveStop.{SolveStop}
use Rattle.simplex.specs.declared.SolveStop.TheVariants.{Memory, Wide, Units}

-- Has its cell at e times the pivot row been subtracted from each row but r?
pub record AreTaken (before after : List RowDef) (e r : ℕ) (pivot : RowDef) : Type 0 where
  pub as_many : length after ≡ length before
  pub taken : (i : ℕ) → i < length before → i ≢ r → IsLeftRow (row_of before i) (cell_at (row_of before i) e) pivot (row_of after i)

-- The rows after that, or Wide exactly if a product or a difference has no form.
abbrev pub TakesAll : Result (Unit {0}) SolveStop → List RowDef → List RowDef → ℕ → ℕ → RowDef → Type 0
TakesAll (Ok u) before after e r pivot = AreTaken before after e r pivot
TakesAll (Err Memory) before after e r pivot = Unit {0}
TakesAll (Err Wide) before after e r pivot = (i : ℕ) × (v : ℕ) × (i < length before) × (i ≢ r)
    × IsWideLess (cell_at (row_of before i) v) (cell_at (row_of before i) e) (cell_at pivot v)
TakesAll (Err Units) before after e r pivot = ⊥

-- Can row r be exchanged at e: have all rows as many places, and is its cell there not zero?
pub record CanExchange (rows : List RowDef) (e r : ℕ) : Type 0 where
  pub row : r < length rows
  pub even : (i : ℕ) → i < length rows → places (row_of rows i) ≡ places (row_of rows r)
  pub pivot : (cell_at (row_of rows r) e).num ≢ pos 0

-- Is row r divided by its cell at e? And has its cell at e times the new row r been subtracted from each other row?
pub record AreExchanged (before after : List RowDef) (e r : ℕ) : Type 0 where
  pub as_many : length after ≡ length before
  pub divided : IsDividedRow (row_of before r) (cell_at (row_of before r) e) (row_of after r)
  pub taken : (i : ℕ) → i < length before → i ≢ r
      → IsLeftRow (row_of before i) (cell_at (row_of before i) e) (row_of after r) (row_of after i)

-- The rows after that, or Wide exactly if a quotient, a product or a difference has no form.
abbrev pub ExchangesIn : Result (Unit {0}) SolveStop → List RowDef → List RowDef → ℕ → ℕ → Type 0
ExchangesIn (Ok u) before after e r = AreExchanged before after e r
ExchangesIn (Err Memory) before after e r = Unit {0}
ExchangesIn (Err Wide) before after e r =
    (most : ℕ) (basis : List ℕ) → length before ≡ most + 1 → IsWideStep most (table_of before basis) e r
ExchangesIn (Err Units) before after e r = ⊥

-- Has a run of the program reached the table of these rows, and does variable e enter now?
pub record CanStep (p : ProgramDef) (rows : List RowDef) (basis : List ℕ) (e : ℕ) : Type 0 where
  pub size : HasSize p rows basis
  pub enters : IsEntering p (table_of rows basis) e
  pub reached : (k : ℕ) × Reached p k (table_of rows basis)

-- The next table, or Wide exactly if the exchange is wide.
abbrev pub Steps : Result (Unit {0}) SolveStop → ProgramDef → ℕ → List RowDef → List ℕ → List RowDef → List ℕ → Type 0
Steps (Ok u) p e rows basis rows' basis' =
    (HasSize p rows' basis') × ((r : ℕ) × IsExchange p (table_of rows basis) (table_of rows' basis') e r)
Steps (Err Memory) p e rows basis rows' basis' = Unit {0}
Steps (Err Wide) p e rows basis rows' basis' =
    (IsWideRatio (variables p) (height p) (table_of rows basis) e)
    ⊎ ((r : ℕ) × (IsLeaving p (table_of rows basis) e r) × IsWideStep (height p) (table_of rows basis) e r)
Steps (Err Units) p e rows basis rows' basis' = ⊥
