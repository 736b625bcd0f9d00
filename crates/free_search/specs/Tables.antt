-- The table of a search: its sizes, its variables and its place in the run.
use Rattle.std.specs.Prelude.{◌≡◌, ℕ, ◌<◌, List, [], ◌∷◌, ◌++◌, map, length, slice_index, slice_index_or, Some, pos, ◌<ℤ◌}
use Rattle.std.specs.declared.option.Option.{Option}
use Rattle.program_form.specs.Program.{ProgramDef, columns}
use Rattle.exchange_runs.specs.Table.{Table, variables}
use Rattle.exchange_runs.specs.Unbounded.{FreelyReached}
use Rattle.whole_rows.specs.Rows.{RowDef}
use Rattle.whole_runs.specs.States.{table_seen, stand_at, HasSize, AreStands, ArePlaced}
use Rattle.whole_runs.specs.declared.stands.Stand.{Stand}
use Rattle.whole_runs.specs.declared.stands.Stand.TheVariants.{Outside}
use Rattle.free_search.specs.declared.tableau.Tableau.{Tableau}

-- The row at i.
abbrev pub row_at : List RowDef → ℕ → RowDef
row_at rows i = slice_index_or rows i (record { nums = []; limit = pos 0; den = pos 1 })

-- Has each row n places?
abbrev pub HavePlaces : ℕ → List RowDef → Type 0
HavePlaces n rows = (i : ℕ) → i < length rows → length (row_at rows i).nums ≡ n

-- Has each row, and the objective row too, n places, each with its variable, and each row of the program its basic variable?
pub record HasSizes (n : ℕ) (tableau : Tableau) : Type 0 where
  pub rows : HavePlaces n tableau.rows.items
  pub objective : length tableau.objective.nums ≡ n
  pub basic_each : length tableau.basis.items ≡ length tableau.rows.items
  pub outside_each : length tableau.outside.items ≡ n

-- The rows of a run, each of them changed, with the objective row as the last.
abbrev pub rows_seen : List RowDef → RowDef → List (Option RowDef)
rows_seen rows objective = map Some rows ++ Some objective ∷ []

-- Are all denominators above zero?
pub record HavePositive (all : List RowDef) (last : RowDef) : Type 0 where
  pub rows : (i : ℕ) → i < length all → pos 0 <ℤ (row_at all i).den
  pub objective : pos 0 <ℤ last.den

-- Do these stands say where the variables of the table are?
pub record AreStandsOf (p : ProgramDef) (tableau : Tableau) (stands : List Stand) : Type 0 where
  pub size : HasSize p (rows_seen tableau.rows.items tableau.objective) tableau.basis.items stands
  pub are : AreStands p tableau.basis.items stands
  pub placed : ArePlaced p tableau.outside.items stands
  -- at each place there is a variable
  pub full : (k : ℕ) → k < columns p
      → (slice_index tableau.outside.items k < variables p) × (stand_at stands (slice_index tableau.outside.items k) ≡ Outside k)

-- The table as one of the run.
abbrev pub table_with : ProgramDef → Tableau → List Stand → Table
table_with p tableau stands = table_seen p (rows_seen tableau.rows.items tableau.objective) tableau.basis.items stands

-- Is it the table of the run over unbounded fractions after k exchanges?
pub record IsAfter (p : ProgramDef) (k : ℕ) (tableau : Tableau) : Type 0 where
  pub stands : List Stand
  pub are : AreStandsOf p tableau stands
  pub positive : HavePositive tableau.rows.items tableau.objective
  pub reached : FreelyReached p k (table_with p tableau stands)
