-- What is answered on the way to the row that leaves?
use Rattle.std.specs.Prelude.{◌≡◌, ℕ, ◌+◌, ◌<◌, List, slice_index, Result, IfOk, IfSome}
use Rattle.std.specs.declared.alloc.AllocError.{AllocError}
use Rattle.std.specs.declared.option.Option.{Option}
use Rattle.program_form.specs.Program.{ProgramDef, height}
use Rattle.exchange_runs.specs.Table.{Table, variables}
use Rattle.whole_rows.specs.declared.marks.RowMarks.{RowMarks}
use Rattle.whole_rows.specs.Rows.{RowDef}
use Rattle.whole_rows.specs.declared.entries.Entry.{Entry}
use Rattle.whole_runs.specs.States.{stand_at, table_seen}
use Rattle.whole_runs.specs.Columns.{IsColumn, AreMarked}
use Rattle.whole_runs.specs.Exchanges.{Leaves}
use Rattle.whole_runs.specs.Choice.{IsRatioOf, IsLeastOf, IsLeastSoFar}
use Rattle.whole_runs.specs.declared.choice.Ratio.{Ratio}
use Rattle.whole_runs.specs.declared.stands.Stand.{Stand}
use Rattle.whole_runs.specs.declared.stands.Stand.TheVariants.{Outside}

-- The column of place k, unless memory runs out. Each number of the rows still has its mark.
pub record ReadsColumn (result : Result (Unit {0}) AllocError) (p : ProgramDef) (rows : List (Option RowDef)) (k : ℕ)
    (entries : List Entry) (marks : RowMarks) : Type 0 where
  pub column : IfOk result (λ _. IsColumn p rows k entries)
  pub marked : AreMarked p rows marks

-- Is `found` the least ratio of the rows through that of `next`, if `best` is the least of those before?
pub record IsLeastThrough (basis : List ℕ) (best : Option Ratio) (next found : Ratio) : Type 0 where
  pub least : (t : Table) (place e : ℕ) → ((i : ℕ) → t.basic i ≡ slice_index basis i) → IsLeastSoFar place t e next.row best
      → IsRatioOf place t e next → IsLeastOf place t e (next.row + 1) found
  pub within : found.row < next.row + 1

-- Is it the least ratio of all rows of the program, if the variable of the column enters?
pub record IsLeastRatio (best : Option Ratio) (p : ProgramDef) (rows : List (Option RowDef)) (basis : List ℕ) (column : List Entry)
    : Type 0 where
  pub least : (e k : ℕ) (stands : List Stand) → IsColumn p rows k column → e < variables p → stand_at stands e ≡ Outside k
      → IsLeastSoFar (variables p) (table_seen p rows basis stands) e (height p) best
  pub within : IfSome best (λ ratio. ratio.row < height p)

-- Is it the row that leaves then?
pub record LeavesFor (result : Option ℕ) (p : ProgramDef) (rows : List (Option RowDef)) (basis : List ℕ) (column : List Entry)
    : Type 0 where
  pub least : (e k : ℕ) (stands : List Stand) → IsColumn p rows k column → e < variables p → stand_at stands e ≡ Outside k
      → Leaves result p (table_seen p rows basis stands) e
  pub within : IfSome result (λ r. r < height p)
