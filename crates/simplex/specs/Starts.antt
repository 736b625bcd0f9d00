-- The parts of the first table, as lists.
use Rattle.std.specs.Prelude.{◌≡◌, ℕ, ◌+◌, ◌<◌, ◌^◌, List, length, slice_index, pos}
use Rattle.fraction128.specs.Fraction.{whole}
use Rattle.program_form.specs.Program.{ProgramDef, height}
use Rattle.exchange_runs.specs.Table.{variables, slack, first_limit, first_number}
use Rattle.simplex.specs.declared.entries.Entry.{Entry}
use Rattle.simplex.specs.Entries.{listed_at, AreSparse, AreBelow}
use Rattle.simplex.specs.Rows.{RowDef, Fits, cell_at}
use Rattle.simplex.specs.Tables.{row_of}

-- Is n the limit of row i, or zero for the objective row, and below 2^63?
pub record IsFirstLimit (p : ProgramDef) (i n : ℕ) : Type 0 where
  pub value : n ≡ first_limit p i
  pub small : n < 2 ^ 63

-- Are these the nonzero numbers of the first n variables in row i of the first table of p?
pub record AreFirstEntries (p : ProgramDef) (i n : ℕ) (entries : List Entry) : Type 0 where
  pub sparse : AreSparse entries
  pub below : AreBelow n entries
  pub numbers : (v : ℕ) → v < n → listed_at entries v ≡ whole (pos (first_number p i v))

-- Is it row i of the first table of p?
pub record IsFirstRow (p : ProgramDef) (i : ℕ) (row : RowDef) : Type 0 where
  pub fits : Fits (variables p) row
  pub numbers : (v : ℕ) → cell_at row v ≡ whole (pos (first_number p i v))

-- Are these the rows of the first table, with the objective row last?
pub record AreFirstRows (p : ProgramDef) (rows : List RowDef) : Type 0 where
  pub row_each : length rows ≡ height p + 1
  pub first : (i : ℕ) → i < height p + 1 → IsFirstRow p i (row_of rows i)

-- Are these the slacks of the rows?
pub record IsFirstBasis (p : ProgramDef) (basis : List ℕ) : Type 0 where
  pub basic_each : length basis ≡ height p
  pub slacks : (i : ℕ) → i < height p → slice_index basis i ≡ slack p i
