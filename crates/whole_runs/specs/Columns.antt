-- Columns, one for each place: the cells of the rows there as whole numbers, each over its row's denominator.
use Rattle.std.specs.Prelude.{◌≡◌, ◌≢◌, ℕ, ◌<◌, List, length, pos, ℤ, Some, None}
use Rattle.std.specs.declared.option.Option.{Option}
use Rattle.program_form.specs.Program.{ProgramDef, columns, entry}
use Rattle.whole_rows.specs.Marks.{IsMarked, HaveRoom}
use Rattle.whole_rows.specs.declared.marks.RowMarks.{RowMarks}
use Rattle.whole_rows.specs.Rows.{RowDef, num_at, listed_at, AreSparse, AreBelow}
use Rattle.whole_rows.specs.declared.entries.Entry.{Entry}
use Rattle.whole_runs.specs.States.{row_at}

-- The number of row i at place k.
abbrev pub num_seen : ProgramDef → Option RowDef → ℕ → ℕ → ℤ
num_seen p None i k = pos (entry p i k)
num_seen p (Some row) i k = num_at row k

-- Is it the column of place k: the rows' nonzero numbers there, each at its row?
pub record IsColumn (p : ProgramDef) (rows : List (Option RowDef)) (k : ℕ) (column : List Entry) : Type 0 where
  pub sparse : AreSparse column
  pub below : AreBelow (length rows) column
  pub each : (i : ℕ) → i < length rows → listed_at column i ≡ num_seen p (row_at rows i) i k

-- Is each row marked at each place where its number isn't zero? It may have more marks.
pub record AreMarked (p : ProgramDef) (rows : List (Option RowDef)) (marks : RowMarks) : Type 0 where
  pub room : HaveRoom (columns p) (length rows) marks
  pub marked : (k i : ℕ) → k < columns p → i < length rows → num_seen p (row_at rows i) i k ≢ pos 0 → IsMarked marks k i
