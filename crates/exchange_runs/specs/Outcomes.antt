-- How does a run end that may take this many units? It takes one unit for the run, and one more for each exchange begun.
use Rattle.std.specs.Prelude.{◌≡◌, ◌⊎◌, ℕ, ◌+◌, ◌<◌, List}
use Rattle.fraction128.specs.Fraction.{Fraction}
use Rattle.program_form.specs.Program.{ProgramDef}
use Rattle.program_form.specs.Certificate.{DualDef}
use Rattle.exchange_runs.specs.Table.{Table}
use Rattle.exchange_runs.specs.Exchange.{IsEntering}
use Rattle.exchange_runs.specs.Run.{Reached, IsExchangeRun}
use Rattle.exchange_runs.specs.WideExchange.{IsWideExchange}
use Rattle.exchange_runs.specs.Readings.{IsReadOff, IsWideEnd}

-- Does the run end within the units, after k exchanges, with this value, primal and dual?
pub record EndsWithin (p : ProgramDef) (units k : ℕ) (value : Fraction) (primal : List Fraction) (d : DualDef) : Type 0 where
  pub table : Table
  pub run : IsExchangeRun p k table
  pub within : k < units
  pub read_off : IsReadOff p table value primal d

-- Is the run wide within the units? It is wide at an exchange begun after some others, for which there is a unit too, or at its end.
pub record IsWideWithin (p : ProgramDef) (units : ℕ) : Type 0 where
  pub exchanges : ℕ
  pub table : Table
  pub reached : Reached p exchanges table
  pub wide : ((exchanges + 1 < units) × IsWideExchange p table)
      ⊎ ((exchanges < units) × (IsExchangeRun p exchanges table) × IsWideEnd p table)

-- Does the run need more units? It does if there are none, or if an exchange begins when all are taken.
abbrev pub NeedsMoreThan : ProgramDef → ℕ → Type 0
NeedsMoreThan p units =
    (units ≡ 0) ⊎ ((k : ℕ) × (t : Table) × (e : ℕ) × (k + 1 ≡ units) × (Reached p k t) × IsEntering p t e)

-- Does the run do one of the three?
abbrev pub HasOutcome : ProgramDef → ℕ → Type 0
HasOutcome p units =
    ((k : ℕ) × (value : Fraction) × (primal : List Fraction) × (d : DualDef) × EndsWithin p units k value primal d)
    ⊎ (IsWideWithin p units ⊎ NeedsMoreThan p units)
