-- How the ticks of a machine's next rows are counted.
use Rattle.std.specs.Prelude.{ℕ, ◌+◌, ◌≤◌, List, slice_index, Option}
use Rattle.std.specs.BTreeMap.{BTreeMap}
use Rattle.std.specs.Option.{option_and_then}
use Rattle.sporadic_model.specs.declared.limits.TheConstants.{MOST_TICKS}
use Rattle.schedule_model.specs.RowDef.{Trace, row_in}
use Rattle.schedule_model.specs.Fitting.{RowsDef}
use Rattle.phase_machine.specs.MachineDef.{MachineDef, under}
use Rattle.phase_machine.specs.Now.{current_now}
use Rattle.charge_laws.specs.Charges.{Charge}
use Rattle.charge.specs.declared.tally.ChargePlace.{ChargePlace}
use Rattle.charge.specs.Tally.{IsTally, AreCountedAlike, place_at, ticks_before}

-- To which place is the tick at the machine's position counted, for each job?
abbrev pub place_now : (Trace → ℕ → ℕ → Option Charge) → RowsDef → MachineDef → List ℕ → ℕ → Option ChargePlace
place_now charges rows m bounds = place_at charges (under m (row_in rows.runs)) (slice_index bounds) m.tick

-- The same for the active job of task x, if it has one.
abbrev pub place_of_task : (Trace → ℕ → ℕ → Option Charge) → RowsDef → MachineDef → List ℕ → ℕ → Option ChargePlace
place_of_task charges rows m bounds x = option_and_then (place_now charges rows m bounds) (current_now m x)

-- Has the map the counts of the ticks before tick t?
abbrev pub CountsUntil : (Trace → ℕ → ℕ → Option Charge) → RowsDef → MachineDef → List ℕ → BTreeMap ChargePlace ℕ → ℕ → Type 0
CountsUntil charges rows m bounds ticks t = IsTally ticks (ticks_before charges (under m (row_in rows.runs)) (slice_index bounds) t)

-- May the machine's next n ticks be counted at once? They are one at least, a schedule may have them, and all are counted as the first.
pub record AreCountedAtOnce (charges : Trace → ℕ → ℕ → Option Charge) (rows : RowsDef) (m : MachineDef) (bounds : List ℕ) (n : ℕ) : Type 0
  where
    pub some : 1 ≤ n
    pub early : m.tick + n ≤ MOST_TICKS
    pub alike : AreCountedAlike charges (under m (row_in rows.runs)) (slice_index bounds) m.tick n
