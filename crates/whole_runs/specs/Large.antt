-- When are whole numbers not enough for a run? At an exchange, or at its end.
use Rattle.std.specs.Prelude.{◌≡◌, ◌≢◌, ◌⊎◌, ℕ, ◌+◌, ◌<◌, List, length}
use Rattle.std.specs.declared.option.Option.{Option}
use Rattle.program_form.specs.Program.{ProgramDef}
use Rattle.exchange_runs.specs.Table.{Table}
use Rattle.exchange_runs.specs.Exchange.{IsEntering, IsLast, IsLeavingOver}
use Rattle.exchange_runs.specs.Readings.{IsWideEnd}
use Rattle.exchange_runs.specs.SmallRuns.{IsSmall, SmallReached, IsLowestTable}
use Rattle.whole_rows.specs.Rows.{RowDef, PivotDef, IsPivotOf}
use Rattle.whole_rows.specs.Large.{IsTooLarge}
use Rattle.whole_runs.specs.States.{row_at, stand_at, table_seen, HasSize, AreStands}
use Rattle.whole_runs.specs.Exchanges.{IsTouched, IsDivided}
use Rattle.whole_runs.specs.declared.stands.Stand.{Stand}
use Rattle.whole_runs.specs.declared.stands.Stand.TheVariants.{Outside}

-- Is row i, as a row of its own, too large for what is subtracted from it with this pivot?
pub record IsTooLargeFor (p : ProgramDef) (i : ℕ) (seen : Option RowDef) (k : ℕ) (pivot : PivotDef) : Type 0 where
  pub row : RowDef
  pub touched : IsTouched p i seen row
  pub large : IsTooLarge row k pivot

-- Is this so for some row but r?
abbrev pub IsSomeTooLarge : ProgramDef → List (Option RowDef) → ℕ → ℕ → PivotDef → Type 0
IsSomeTooLarge p rows k r pivot = (i : ℕ) × (i < length rows) × (i ≢ r) × IsTooLargeFor p i (row_at rows i) k pivot

-- If row r is divided by its cell at k, is some other row too large for what is subtracted from it?
pub record AreTooLarge (p : ProgramDef) (rows : List (Option RowDef)) (k r : ℕ) : Type 0 where
  pub divided : RowDef
  pub is_divided : IsDivided p r (row_at rows r) k divided
  pub pivot : PivotDef
  pub is_pivot : IsPivotOf pivot divided
  pub large : IsSomeTooLarge p rows k r pivot

-- Is some row too large for the exchange that begins there?
pub record IsLargeExchange (p : ProgramDef) (rows : List (Option RowDef)) (basis : List ℕ) (stands : List Stand) : Type 0 where
  pub entering : ℕ
  pub enters : IsEntering p (table_seen p rows basis stands) entering
  pub place : ℕ
  pub stands_so : stand_at stands entering ≡ Outside place
  pub leaving : ℕ
  pub leaves : IsLeavingOver IsSmall p (table_seen p rows basis stands) entering leaving
  pub large : AreTooLarge p rows place leaving

-- Is the run wide at its end there, in lowest terms?
abbrev pub IsLargeEnd : ProgramDef → Table → Type 0
IsLargeEnd p w = IsLast p w × ((t : Table) × (IsLowestTable p w t) × IsWideEnd p t)

-- Are whole numbers not enough for the run within the units: at an exchange begun after some others, for which there is a unit too, or at
-- its end?
pub record IsLargeWithin (p : ProgramDef) (units : ℕ) : Type 0 where
  pub exchanges : ℕ
  pub rows : List (Option RowDef)
  pub basis : List ℕ
  pub stands : List Stand
  pub size : HasSize p rows basis stands
  pub fit : AreStands p basis stands
  pub reached : SmallReached p exchanges (table_seen p rows basis stands)
  pub large : ((exchanges + 1 < units) × IsLargeExchange p rows basis stands)
      ⊎ ((exchanges < units) × IsLargeEnd p (table_seen p rows basis stands))
