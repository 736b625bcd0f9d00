-- What do the steps of an exchange answer at a row?
use Rattle.std.specs.Prelude.{◌≡◌, ℕ, Result, Ok, Err}
use Rattle.fraction128.specs.Fraction.{Fraction, IsForm, IsQuotient}
use Rattle.fraction128.specs.Gives.{HasNoForm, IsWideLess}
use Rattle.exchange_runs.specs.Exchange.{IsLess}
use Rattle.simplex.specs.Rows.{RowDef, places, cell_at}
use Rattle.simplex.specs.declared.SolveStop.{SolveStop}
use Rattle.simplex.specs.declared.SolveStop.TheVariants.{Memory, Wide, Units}

-- Is `divided` the row with each cell divided?
pub record IsDividedRow (row : RowDef) (by : Fraction) (divided : RowDef) : Type 0 where
  pub as_many : places divided ≡ places row
  pub form : (v : ℕ) → IsForm (cell_at divided v)
  pub quotient : (v : ℕ) → IsQuotient (cell_at row v) by (cell_at divided v)

-- The row divided, or Wide exactly if a quotient has no form.
abbrev pub DividesRow : Result RowDef SolveStop → RowDef → Fraction → Type 0
DividesRow (Ok divided) row by = IsDividedRow row by divided
DividesRow (Err Memory) row by = Unit {0}
DividesRow (Err Wide) row by = (v : ℕ) × HasNoForm (IsQuotient (cell_at row v) by)
DividesRow (Err Units) row by = ⊥

-- Is `left` what is left of the row if f times the pivot row is subtracted?
pub record IsLeftRow (row : RowDef) (f : Fraction) (pivot left : RowDef) : Type 0 where
  pub as_many : places left ≡ places row
  pub each : (v : ℕ) → IsLess (cell_at row v) f (cell_at pivot v) (cell_at left v)

-- What is left of the row, or Wide exactly if a product or a difference has no form.
abbrev pub LeavesRow : Result RowDef SolveStop → RowDef → Fraction → RowDef → Type 0
LeavesRow (Ok left) row f pivot = IsLeftRow row f pivot left
LeavesRow (Err Memory) row f pivot = Unit {0}
LeavesRow (Err Wide) row f pivot = (v : ℕ) × IsWideLess (cell_at row v) f (cell_at pivot v)
LeavesRow (Err Units) row f pivot = ⊥
