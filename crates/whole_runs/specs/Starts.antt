-- The parts of the first table.
use Rattle.std.specs.Prelude.{◌≡◌, ◌≢◌, ℕ, ◌+◌, ◌<◌, List, length, slice_index, None, Some, pos}
use Rattle.std.specs.declared.option.Option.{Option}
use Rattle.fraction128.specs.Fraction.{whole}
use Rattle.program_form.specs.Program.{ProgramDef, columns, height, cost, entry}
use Rattle.exchange_runs.specs.Table.{variables, slack}
use Rattle.whole_rows.specs.Marks.{IsMarked, HaveRoom}
use Rattle.whole_rows.specs.declared.marks.RowMarks.{RowMarks}
use Rattle.whole_rows.specs.Rows.{RowDef, cell_at, limit_of}
use Rattle.whole_runs.specs.States.{row_at, cell_seen, limit_seen, stand_at}
use Rattle.whole_runs.specs.declared.stands.Stand.{Stand}
use Rattle.whole_runs.specs.declared.stands.Stand.TheVariants.{Outside, Basic}
use Rattle.whole_runs.specs.declared.tableau.Tableau.{Tableau}

-- Has the row the numbers of row i of the program?
pub record IsFirstRow (p : ProgramDef) (i : ℕ) (row : RowDef) : Type 0 where
  pub as_many : length row.nums ≡ columns p
  pub cells : (k : ℕ) → cell_at row k ≡ cell_seen p None i k
  pub limit : limit_of row ≡ limit_seen p None i

-- Has the row the costs, and the limit zero?
pub record IsCostRow (p : ProgramDef) (row : RowDef) : Type 0 where
  pub as_many : length row.nums ≡ columns p
  pub cells : (k : ℕ) → cell_at row k ≡ whole (pos (cost p k))
  pub limit : limit_of row ≡ whole (pos 0)

-- Is no row of the program changed, and does the row of the costs come after them?
pub record AreFirstRows (p : ProgramDef) (rows : List (Option RowDef)) : Type 0 where
  pub row_each : length rows ≡ height p + 1
  pub untouched : (i : ℕ) → i < height p → row_at rows i ≡ None
  pub objective : RowDef
  pub last : row_at rows (height p) ≡ Some objective
  pub costs : IsCostRow p objective

-- Are these the slacks of the rows?
pub record IsFirstBasis (p : ProgramDef) (basis : List ℕ) : Type 0 where
  pub basic_each : length basis ≡ height p
  pub slacks : (i : ℕ) → i < height p → slice_index basis i ≡ slack p i

-- Is each column at the place of its own number, and each slack in its row?
pub record AreFirstStands (p : ProgramDef) (stands : List Stand) : Type 0 where
  pub stand_each : length stands ≡ variables p
  pub columns_outside : (c : ℕ) → c < columns p → stand_at stands c ≡ Outside c
  pub slacks_basic : (r : ℕ) → r < height p → stand_at stands (slack p r) ≡ Basic r

-- Is each column at its own place?
pub record AreFirstOutside (p : ProgramDef) (outside : List ℕ) : Type 0 where
  pub place_each : length outside ≡ columns p
  pub own : (c : ℕ) → c < columns p → slice_index outside c ≡ c

-- Is each row marked at each column where its coefficient isn't zero, and the objective row where the cost isn't?
pub record AreFirstMarks (p : ProgramDef) (marks : RowMarks) : Type 0 where
  pub room : HaveRoom (columns p) (height p + 1) marks
  pub entries : (k i : ℕ) → k < columns p → i < height p → entry p i k ≢ 0 → IsMarked marks k i
  pub costs : (k : ℕ) → k < columns p → cost p k ≢ 0 → IsMarked marks k (height p)

-- Is it the first tableau?
pub record IsFirstTableau (p : ProgramDef) (t : Tableau) : Type 0 where
  pub rows : AreFirstRows p t.rows.items
  pub marks : AreFirstMarks p t.marks
  pub basis : IsFirstBasis p t.basis.items
  pub stands : AreFirstStands p t.stands.items
  pub outside : AreFirstOutside p t.outside.items
