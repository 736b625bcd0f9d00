-- What does the choice of the entering variable and of the leaving row answer?
use Rattle.std.specs.Prelude.{◌≡◌, ℕ, ◌+◌, ◌<◌, ◌≤◌, Bool, true, false, List, length, slice_index, Option, Some, None, IfSome, Result, Ok}
use Rattle.std.specs.Prelude.{Err, pos, ◌≤ℤ◌, ◌<ℤ◌}
use Rattle.fraction128.specs.Fraction.{Fraction, IsAtMost}
use Rattle.fraction128.specs.declared.Wide.{Wide}
use Rattle.program_form.specs.Program.{ProgramDef}
use Rattle.exchange_runs.specs.Table.{Table}
use Rattle.exchange_runs.specs.Exchange.{IsEntering, IsLast, HasRatio, IsRatio, IsLeastOf}
use Rattle.exchange_runs.specs.WideExchange.{IsWideRatio}
use Rattle.simplex.specs.Rows.{RowDef, cell_at}

-- The first variable whose cell is above zero, or None if there is none.
abbrev pub IsFirstAbove : Option ℕ → RowDef → Type 0
IsFirstAbove (Some e) row = (e < row.place) × (pos 0 <ℤ (cell_at row e).num) × ((v : ℕ) → v < e → (cell_at row v).num ≤ℤ pos 0)
IsFirstAbove None row = (v : ℕ) → v < row.place → (cell_at row v).num ≤ℤ pos 0

-- The entering variable, or None if the table is the last.
abbrev pub Enters : Option ℕ → ProgramDef → Table → Type 0
Enters (Some e) p t = IsEntering p t e
Enters None p t = IsLast p t

-- Does the ratio g of a row whose basic variable is j come before the ratio f of one whose basic variable is i? At equal ratios
-- the lesser variable does.
abbrev pub Comes : Bool → Fraction → Fraction → ℕ → ℕ → Type 0
Comes true g f j i = IsAtMost g f × (IsAtMost f g → j ≤ i)
Comes false g f j i = IsAtMost f g × (IsAtMost g f → i ≤ j)

-- Is it the row below k of the least ratio, with that ratio? It is None if no row below k has a ratio.
abbrev pub IsLeastSoFar : ℕ → Table → ℕ → ℕ → Option (ℕ × Fraction) → Type 0
IsLeastSoFar place t e k None = (i : ℕ) → i < k → HasRatio t e i → ⊥
IsLeastSoFar place t e k (Some best) = IsLeastOf place t e k best.0 best.1

-- Does row i come after the one of the least ratio so far, and has it a basic variable?
pub record IsLaterRow (best : Option (ℕ × Fraction)) (i : ℕ) (basis : List ℕ) : Type 0 where
  pub earlier : IfSome best (λ b. b.0 < i)
  pub within : i < length basis

-- Let `best` be the row of the least ratio below row i, whose ratio is `ratio`. Is `result` the row of the least ratio up to row i?
abbrev pub IsLeastThrough : List ℕ → Option (ℕ × Fraction) → ℕ → Fraction → ℕ × Fraction → Type 0
IsLeastThrough basis best i ratio result =
    (t : Table) (place e : ℕ) → ((k : ℕ) → t.basic k ≡ slice_index basis k) → IsLeastSoFar place t e i best → HasRatio t e i
    → IsRatio place t e i ratio → IsLeastOf place t e (i + 1) result.0 result.1

-- The row of the least ratio, or Wide exactly if a ratio has no form.
abbrev pub Leaves : Result (Option (ℕ × Fraction)) Wide → ℕ → Table → ℕ → ℕ → Type 0
Leaves (Ok best) place t e k = IsLeastSoFar place t e k best
Leaves (Err w) place t e k = IsWideRatio place k t e
