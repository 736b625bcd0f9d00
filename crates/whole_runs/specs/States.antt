-- The table that rows, the basis, and the places of the variables make. Only variables outside the basis have a place in the rows. The cell
-- of a basic variable is 1 in its own row, and 0 in the others.
use Rattle.std.specs.Prelude.{◌≡◌, ℕ, ◌+◌, ◌<◌, ◌==◌, nat_lt, if◌then◌else◌, List, length, slice_index, slice_index_or, pos}
use Rattle.std.specs.Prelude.{Some, None}
use Rattle.std.specs.declared.option.Option.{Option}
use Rattle.fraction128.specs.Fraction.{Fraction, whole}
use Rattle.program_form.specs.Program.{ProgramDef, columns, height, entry, limit}
use Rattle.exchange_runs.specs.Table.{Table, variables}
use Rattle.whole_rows.specs.Rows.{RowDef, cell_at, limit_of}
use Rattle.whole_runs.specs.declared.stands.Stand.{Stand}
use Rattle.whole_runs.specs.declared.stands.Stand.TheVariants.{Outside, Basic}

-- The cell of row i at place k. A row that no exchange has changed is the program's own.
abbrev pub cell_seen : ProgramDef → Option RowDef → ℕ → ℕ → Fraction
cell_seen p None i k = whole (pos (entry p i k))
cell_seen p (Some row) i k = cell_at row k

-- The limit of row i.
abbrev pub limit_seen : ProgramDef → Option RowDef → ℕ → Fraction
limit_seen p None i = whole (pos (limit p i))
limit_seen p (Some row) i = limit_of row

-- The cell of row i for a variable with this stand.
abbrev pub stand_cell : ProgramDef → Option RowDef → ℕ → Stand → Fraction
stand_cell p row i (Outside k) = cell_seen p row i k
stand_cell p row i (Basic j) = if i == j then whole (pos 1) else whole (pos 0)

-- The row at i, if an exchange has changed it.
abbrev pub row_at : List (Option RowDef) → ℕ → Option RowDef
row_at rows i = slice_index_or rows i None

-- Where is variable v?
abbrev pub stand_at : List Stand → ℕ → Stand
stand_at stands v = slice_index_or stands v (Basic 0)

-- The cell of row i at place v of the table.
abbrev pub table_cell : ProgramDef → List (Option RowDef) → List Stand → ℕ → ℕ → Fraction
table_cell p rows stands i v =
    if v == variables p then limit_seen p (row_at rows i) i
    else if nat_lt v (variables p) then stand_cell p (row_at rows i) i (stand_at stands v)
    else whole (pos 0)

abbrev pub table_seen : ProgramDef → List (Option RowDef) → List ℕ → List Stand → Table
table_seen p rows basis stands = record { cell = table_cell p rows stands; basic = λ i. slice_index basis i }

-- Has a changed row a place for each column? The objective row, which is the last, counts as changed.
abbrev pub HasPlaces : ProgramDef → ℕ → Option RowDef → Type 0
HasPlaces p i None = i < height p
HasPlaces p i (Some row) = length row.nums ≡ columns p

-- Are there a row for each row of the program and one for the objective, a basic variable for each row, and a stand for each variable?
pub record HasSize (p : ProgramDef) (rows : List (Option RowDef)) (basis : List ℕ) (stands : List Stand) : Type 0 where
  pub row_each : length rows ≡ height p + 1
  pub basic_each : length basis ≡ height p
  pub stand_each : length stands ≡ variables p
  pub places : (i : ℕ) → i < height p + 1 → HasPlaces p i (row_at rows i)

-- Do the stands fit the basis, and has each variable outside it a place of its own?
pub record AreStands (p : ProgramDef) (basis : List ℕ) (stands : List Stand) : Type 0 where
  pub basic_within : (i : ℕ) → i < height p → slice_index basis i < variables p
  pub basic : (i : ℕ) → i < height p → stand_at stands (slice_index basis i) ≡ Basic i
  pub of_row : (v i : ℕ) → v < variables p → stand_at stands v ≡ Basic i → (i < height p) × (slice_index basis i ≡ v)
  pub place : (v k : ℕ) → v < variables p → stand_at stands v ≡ Outside k → k < columns p
  pub once : (v w k : ℕ) → v < variables p → w < variables p → stand_at stands v ≡ Outside k → stand_at stands w ≡ Outside k → v ≡ w

-- Does the list say which variable is at each place?
pub record ArePlaced (p : ProgramDef) (outside : List ℕ) (stands : List Stand) : Type 0 where
  pub place_each : length outside ≡ columns p
  pub each : (v k : ℕ) → v < variables p → stand_at stands v ≡ Outside k → slice_index outside k ≡ v
