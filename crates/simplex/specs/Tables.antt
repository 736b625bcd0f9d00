-- The table of a list of rows and a list of basic variables.
use Rattle.std.specs.Prelude.{◌≡◌, ℕ, ◌+◌, ◌<◌, List, length, slice_index, slice_index_or}
use Rattle.program_form.specs.Program.{ProgramDef, height}
use Rattle.exchange_runs.specs.Table.{Table, variables}
use Rattle.simplex.specs.Rows.{RowDef, Fits, no_row, cell_at}

-- Row i. The objective row comes after those of the program.
abbrev pub row_of : List RowDef → ℕ → RowDef
row_of rows i = slice_index_or rows i no_row

abbrev pub table_of : List RowDef → List ℕ → Table
table_of rows basis = record { cell = λ i v. cell_at (row_of rows i) v; basic = λ i. slice_index basis i }

-- Is there a row for each row of the program and one for the objective, each with the right places? And is there a basic variable for each
-- row of the program?
pub record HasSize (p : ProgramDef) (rows : List RowDef) (basis : List ℕ) : Type 0 where
  pub row_each : length rows ≡ height p + 1
  pub basic_each : length basis ≡ height p
  pub fits : (i : ℕ) → i < height p + 1 → Fits (variables p) (row_of rows i)

-- Is there a row for each row of the program and one for the objective, and has that one the right places?
pub record HasObjective (p : ProgramDef) (rows : List RowDef) : Type 0 where
  pub row_each : length rows ≡ height p + 1
  pub fits : Fits (variables p) (row_of rows (height p))
