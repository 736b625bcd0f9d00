-- What is read from a row of the table.
use Rattle.std.specs.Prelude.{◌≡◌, ℕ, ◌<◌, ◌^◌, List, length, Some, ℤ, unsigned_abs}
use Rattle.std.specs.declared.option.Option.{Option}
use Rattle.program_form.specs.Program.{ProgramDef, columns, height}
use Rattle.whole_rows.specs.Rows.{RowDef}
use Rattle.whole_runs.specs.States.{row_at, limit_seen}
use Rattle.whole_runs.specs.Columns.{num_seen}

-- Is it the number of row i at place k, and below 2^63 in size?
pub record IsNumberRead (p : ProgramDef) (rows : List (Option RowDef)) (i k : ℕ) (num : ℤ) : Type 0 where
  pub value : num ≡ num_seen p (row_at rows i) i k
  pub small : unsigned_abs num < 2 ^ 63

-- Is it the number of row i's limit, and below 2^63 in size?
pub record IsLimitRead (p : ProgramDef) (rows : List (Option RowDef)) (i : ℕ) (num : ℤ) : Type 0 where
  pub value : num ≡ (limit_seen p (row_at rows i) i).num
  pub small : unsigned_abs num < 2 ^ 63

-- Is it the objective row, with a place for each column?
pub record IsObjective (p : ProgramDef) (rows : List (Option RowDef)) (objective : RowDef) : Type 0 where
  pub row : row_at rows (height p) ≡ Some objective
  pub places : length objective.nums ≡ columns p
