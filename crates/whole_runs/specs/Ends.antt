-- What does a whole run answer?
use Rattle.std.specs.Prelude.{◌≡◌, ℕ, ◌<◌, List, length, Result, Ok, Err, Some, pos, ◌≤ℤ◌}
use Rattle.std.specs.declared.option.Option.{Option}
use Rattle.fraction128.specs.Fraction.{Fraction, whole}
use Rattle.fraction128.specs.Scaling.{fraction_at}
use Rattle.program_form.specs.Program.{ProgramDef, columns, height}
use Rattle.program_form.specs.Certificate.{dual_seen}
use Rattle.program_form.specs.declared.certificate.Dual.{Dual}
use Rattle.exchange_runs.specs.Table.{Table, variables, slack}
use Rattle.exchange_runs.specs.Exchange.{IsLast}
use Rattle.exchange_runs.specs.Readings.{minus, IsReadOff, IsWrittenDual, IsWideEnd}
use Rattle.exchange_runs.specs.Outcomes.{EndsWithin, NeedsMoreThan}
use Rattle.exchange_runs.specs.SmallRuns.{IsLowestOf, IsLowestTable}
use Rattle.whole_rows.specs.Rows.{RowDef}
use Rattle.whole_runs.specs.States.{row_at, limit_seen, stand_at, stand_cell, table_seen, HasSize, AreStands}
use Rattle.whole_runs.specs.Large.{IsLargeWithin}
use Rattle.whole_runs.specs.declared.Ended.{Ended}
use Rattle.whole_runs.specs.declared.stands.Stand.{Stand}
use Rattle.whole_runs.specs.declared.stands.Stand.TheVariants.{Outside, Basic}
use Rattle.whole_runs.specs.declared.stops.Halt.{Halt}
use Rattle.whole_runs.specs.declared.stops.Halt.TheVariants.{Memory, Large, Units}

-- The end of the exchange run. Or Units, only if it needs more units. Or Large, only if whole numbers aren't enough for it. Memory says
-- nothing.
abbrev pub Runs : Result Ended Halt → ProgramDef → ℕ → Type 0
Runs (Ok e) p units = EndsWithin p units e.exchanges e.value e.primal.items (dual_seen e.dual)
Runs (Err Memory) p units = Unit {0}
Runs (Err Large) p units = IsLargeWithin p units
Runs (Err Units) p units = NeedsMoreThan p units

-- What is asked for, or Large for this cause. Memory says nothing, and Units never comes.
abbrev pub GivesOrStops : {X : Type 0} → Result X Halt → (X → Type 0) → Type 0 → Type 0
GivesOrStops (Ok x) is cause = is x
GivesOrStops (Err Memory) is cause = Unit {0}
GivesOrStops (Err Large) is cause = cause
GivesOrStops (Err Units) is cause = ⊥

-- What is read from the last table, or Large if its end is wide.
abbrev pub Finishes : Result Ended Halt → ProgramDef → Table → ℕ → Type 0
Finishes result p t k =
    GivesOrStops result (λ e. (e.exchanges ≡ k) × IsReadOff p t e.value e.primal.items (dual_seen e.dual)) (IsWideEnd p t)

-- The cell of the objective row for a variable with this stand.
abbrev pub objective_cell : ProgramDef → RowDef → Stand → Fraction
objective_cell p objective stand = stand_cell p (Some objective) (height p) stand

-- Are these the duals that the objective row gives, each in lowest terms?
pub record AreLowestDuals (p : ProgramDef) (objective : RowDef) (stands : List Stand) (duals : List Fraction) : Type 0 where
  pub dual_each : length duals ≡ height p
  pub each : (r : ℕ) → r < height p → IsLowestOf (minus (objective_cell p objective (stand_at stands (slack p r)))) (fraction_at duals r)

-- Is f, in lowest terms, the value of a variable with this stand: the limit of its row, or zero if it has none?
abbrev pub IsLowestValue : ProgramDef → List (Option RowDef) → Stand → Fraction → Type 0
IsLowestValue p rows (Outside k) f = f ≡ whole (pos 0)
IsLowestValue p rows (Basic j) f = IsLowestOf (limit_seen p (row_at rows j) j) f

-- Are these the values of the columns?
pub record AreLowestValues (p : ProgramDef) (rows : List (Option RowDef)) (stands : List Stand) (values : List Fraction) : Type 0 where
  pub value_each : length values ≡ columns p
  pub each : (c : ℕ) → c < columns p → IsLowestValue p rows (stand_at stands c) (fraction_at values c)

-- Is the stand a place of a column, or a row of the program?
abbrev pub IsStandOf : ProgramDef → Stand → Type 0
IsStandOf p (Outside k) = k < columns p
IsStandOf p (Basic j) = j < height p

-- Has the objective row a place for each column, and each variable a stand?
pub record CanReadDuals (p : ProgramDef) (objective : RowDef) (stands : List Stand) : Type 0 where
  pub places : length objective.nums ≡ columns p
  pub stand_each : length stands ≡ variables p
  pub each : (v : ℕ) → v < variables p → IsStandOf p (stand_at stands v)

-- And is no number of the objective row above zero?
pub record CanGiveDual (p : ProgramDef) (objective : RowDef) (stands : List Stand) : Type 0 where
  pub read : CanReadDuals p objective stands
  pub last : (v : ℕ) → v < variables p → (objective_cell p objective (stand_at stands v)).num ≤ℤ pos 0

-- The dual that the objective row gives. Or Large, if the end of the table in lowest terms is wide.
abbrev pub GivesDual : Result Dual Halt → ProgramDef → RowDef → List Stand → Type 0
GivesDual result p objective stands =
    (t : Table) → ((v : ℕ) → v < variables p → IsLowestOf (objective_cell p objective (stand_at stands v)) (t.cell (height p) v))
    → GivesOrStops result (λ d. IsWrittenDual p t (dual_seen d)) (IsWideEnd p t)

-- Has the table the rows of the program and one more, and each variable a stand?
pub record CanReadValues (p : ProgramDef) (rows : List (Option RowDef)) (stands : List Stand) : Type 0 where
  pub objective : height p < length rows
  pub stand_each : length stands ≡ variables p
  pub each : (v : ℕ) → v < variables p → IsStandOf p (stand_at stands v)

-- Are these, with some basis, the rows and stands of a table in which no variable can enter?
abbrev pub HasLastTable : ProgramDef → List (Option RowDef) → List Stand → Type 0
HasLastTable p rows stands =
    (basis : List ℕ) × (HasSize p rows basis stands) × (AreStands p basis stands) × IsLast p (table_seen p rows basis stands)

-- What is read from their table in lowest terms.
abbrev pub FinishesAt : Result Ended Halt → ProgramDef → List (Option RowDef) → List Stand → ℕ → Type 0
FinishesAt result p rows stands k =
    (basis : List ℕ) (t : Table) → AreStands p basis stands → IsLowestTable p (table_seen p rows basis stands) t → Finishes result p t k
