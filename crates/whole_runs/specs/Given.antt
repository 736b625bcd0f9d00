-- What the parts of an exchange are given. In each, rows are those of a table.
use Rattle.std.specs.Prelude.{◌≡◌, ℕ, ◌+◌, ◌<◌, List, length, ℤ, pos, ◌<ℤ◌, IfSome}
use Rattle.std.specs.declared.option.Option.{Option}
use Rattle.program_form.specs.Program.{ProgramDef, columns, height}
use Rattle.whole_rows.specs.Marks.{words_of, HasWords}
use Rattle.whole_rows.specs.declared.marks.RowMarks.{RowMarks}
use Rattle.whole_rows.specs.Rows.{RowDef, PivotDef, entry_at, AreSparse, AreBelow}
use Rattle.whole_rows.specs.declared.entries.Entry.{Entry}
use Rattle.whole_runs.specs.States.{row_at, HasPlaces}
use Rattle.whole_runs.specs.Columns.{num_seen, IsColumn, AreMarked}
use Rattle.whole_runs.specs.Exchanges.{AreSmallRows}
use Rattle.whole_runs.specs.declared.choice.Ratio.{Ratio}

-- Is i a row of the table, and has it a place k?
pub record IsCellAt (p : ProgramDef) (rows : List (Option RowDef)) (i k : ℕ) : Type 0 where
  pub row : i < length rows
  pub places : HasPlaces p i (row_at rows i)
  pub place : k < columns p

-- Is i a row of the table, and one of the program?
pub record IsRowOf (p : ProgramDef) (rows : List (Option RowDef)) (i : ℕ) : Type 0 where
  pub row : i < length rows
  pub within : i < height p

-- Has the row a number at the place of each entry, and is there a variable at it?
pub record HavePlaces (row : RowDef) (variables : List ℕ) (entries : List Entry) : Type 0 where
  pub places : AreBelow (length row.nums) entries
  pub outside : AreBelow (length variables) entries

-- Is it the number of row i at place k?
pub record IsNumberAt (p : ProgramDef) (rows : List (Option RowDef)) (i k : ℕ) (num : ℤ) : Type 0 where
  pub place : k < columns p
  pub row : i < length rows
  pub number : num ≡ num_seen p (row_at rows i) i k

-- Has each row its places, and is it marked at those where its number isn't zero? And is k one of the places?
pub record CanReadColumn (p : ProgramDef) (rows : List (Option RowDef)) (marks : RowMarks) (k : ℕ) : Type 0 where
  pub places : (i : ℕ) → i < length rows → HasPlaces p i (row_at rows i)
  pub place : k < columns p
  pub marked : AreMarked p rows marks

-- Has the row of each of the two ratios a basic variable?
pub record HaveBasics (a b : Ratio) (basis : List ℕ) : Type 0 where
  pub next : a.row < length basis
  pub best : b.row < length basis

-- Is it the ratio of a later row than the best one so far, and has that row a basic variable?
pub record IsLaterRatio (basis : List ℕ) (best : Option Ratio) (next : Ratio) : Type 0 where
  pub earlier : IfSome best (λ b. b.row < next.row)
  pub within : next.row < length basis

-- Are there a row for each row of the program and one for the objective, and a basic variable for each row? And are the entries a column?
pub record HasColumn (p : ProgramDef) (rows : List (Option RowDef)) (basis : List ℕ) (entries : List Entry) : Type 0 where
  pub row_each : length rows ≡ height p + 1
  pub basic_each : length basis ≡ height p
  pub column : (k : ℕ) × IsColumn p rows k entries

-- Is it row r of the program, with its places, and is its number at k above zero?
pub record CanBeDivided (p : ProgramDef) (row : Option RowDef) (r k : ℕ) : Type 0 where
  pub places : HasPlaces p r row
  pub within : r < height p
  pub place : k < columns p
  pub above : pos 0 <ℤ num_seen p row r k

-- Has row i its places, is k one of them, and are those that the pivot lists too?
pub record CanTakeFromRow (p : ProgramDef) (row : Option RowDef) (i k : ℕ) (pivot : PivotDef) : Type 0 where
  pub places : HasPlaces p i row
  pub place : k < columns p
  pub below : AreBelow (columns p) pivot.entries

-- The same of each row, and does the column list some of them, in order?
pub record CanTakeAll (p : ProgramDef) (rows : List (Option RowDef)) (column : List Entry) (k : ℕ) (pivot : PivotDef) : Type 0 where
  pub sparse : AreSparse column
  pub within : AreBelow (length rows) column
  pub places : (i : ℕ) → i < length rows → HasPlaces p i (row_at rows i)
  pub place : k < columns p
  pub below : AreBelow (columns p) pivot.entries

-- Are these the rows of a table, all of whose values are small, and the column of place k, with a number above zero in row r?
pub record CanExchange (p : ProgramDef) (rows : List (Option RowDef)) (entries : List Entry) (k r : ℕ) : Type 0 where
  pub row_each : length rows ≡ height p + 1
  pub places : (i : ℕ) → i < length rows → HasPlaces p i (row_at rows i)
  pub small : AreSmallRows p rows
  pub column : IsColumn p rows k entries
  pub place : k < columns p
  pub row : r < height p
  pub above : pos 0 <ℤ num_seen p (row_at rows r) r k

-- Have the marks the words of each entry's place, and is w one of them?
pub record CanJoinWord (marks : RowMarks) (entries : List Entry) (w : ℕ) : Type 0 where
  pub words : (m : ℕ) → m < length entries → HasWords marks (entry_at entries m).place
  pub word : w < words_of marks

-- Have the marks the words of each entry's place, and those of place k?
pub record CanJoinMarks (marks : RowMarks) (entries : List Entry) (k : ℕ) : Type 0 where
  pub words : (m : ℕ) → m < length entries → HasWords marks (entry_at entries m).place
  pub from : HasWords marks k
