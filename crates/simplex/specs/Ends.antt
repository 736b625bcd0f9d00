-- What does reading the last table answer?
use Rattle.std.specs.Prelude.{◌≡◌, ℕ, ◌+◌, ◌<◌, ◌≤◌, List, length, pos, ◌≤ℤ◌, Result, Ok, Err}
use Rattle.fraction128.specs.Fraction.{Fraction, whole}
use Rattle.program_form.specs.Program.{ProgramDef}
use Rattle.program_form.specs.Certificate.{dual_seen}
use Rattle.program_form.specs.declared.certificate.Dual.{Dual}
use Rattle.exchange_runs.specs.Table.{Table, variables}
use Rattle.exchange_runs.specs.Exchange.{IsLast}
use Rattle.exchange_runs.specs.Readings.{minus, IsWrittenDual, IsWideEnd, IsReadOff, IsValueOf}
use Rattle.fraction128.specs.Scaling.{fraction_at}
use Rattle.simplex.specs.Rows.{RowDef, Fits, cell_at}
use Rattle.simplex.specs.Tables.{row_of, table_of, HasSize}
use Rattle.simplex.specs.declared.Solved.{Solved}
use Rattle.simplex.specs.declared.SolveStop.{SolveStop}
use Rattle.simplex.specs.declared.SolveStop.TheVariants.{Memory, Wide, Units}

-- Are these minus the n cells of the row from place `first` on?
pub record AreMinus (row : RowDef) (first n : ℕ) (list : List Fraction) : Type 0 where
  pub as_many : length list ≡ n
  pub each : (r : ℕ) → r < n → fraction_at list r ≡ minus (cell_at row (first + r))

-- Is it an objective row with the right places, and no cell of a variable above zero?
pub record IsLastRow (p : ProgramDef) (row : RowDef) : Type 0 where
  pub fits : Fits (variables p) row
  pub last : (v : ℕ) → v < variables p → (cell_at row v).num ≤ℤ pos 0

-- Are these `count` zeros?
pub record AreZeros (count : ℕ) (list : List Fraction) : Type 0 where
  pub len : length list ≡ count
  pub zero : (c : ℕ) → fraction_at list c ≡ whole (pos 0)

-- Are the values zero, is there a row for each basic variable, and is `place` that of each row's limit?
pub record CanWriteLimits (values : List Fraction) (rows : List RowDef) (basis : List ℕ) (place : ℕ) : Type 0 where
  pub zero : (c : ℕ) → fraction_at values c ≡ whole (pos 0)
  pub enough : length basis ≤ length rows
  pub fits : (i : ℕ) → i < length rows → Fits place (row_of rows i)

-- Has each column the limit of the row where it is basic, or zero if it isn't in the basis?
abbrev pub AreLimitsOf : List RowDef → List ℕ → ℕ → List Fraction → Type 0
AreLimitsOf rows basis place values =
    (c : ℕ) → c < length values → IsValueOf place (table_of rows basis) (length basis) c (fraction_at values c)

-- Is it a table of the program in which no variable can enter?
pub record HasLastTable (p : ProgramDef) (rows : List RowDef) (basis : List ℕ) : Type 0 where
  pub size : HasSize p rows basis
  pub last : IsLast p (table_of rows basis)

-- The written dual of a table, or Wide exactly if the end is wide.
abbrev pub WritesDual : Result Dual SolveStop → ProgramDef → Table → Type 0
WritesDual (Ok d) p t = IsWrittenDual p t (dual_seen d)
WritesDual (Err Memory) p t = Unit {0}
WritesDual (Err Wide) p t = IsWideEnd p t
WritesDual (Err Units) p t = ⊥

-- What is read from a table after k exchanges, or Wide exactly if the end is wide.
abbrev pub Finishes : Result Solved SolveStop → ProgramDef → Table → ℕ → Type 0
Finishes (Ok s) p t k = (s.exchanges ≡ k) × IsReadOff p t s.value s.primal.items (dual_seen s.dual)
Finishes (Err Memory) p t k = Unit {0}
Finishes (Err Wide) p t k = IsWideEnd p t
Finishes (Err Units) p t k = ⊥
