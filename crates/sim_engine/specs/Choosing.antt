-- How far a schedule is chosen.
use Rattle.std.specs.Prelude.{◌≡◌, ℕ, ◌+◌, ◌<◌, ◌≤◌}
use Rattle.sporadic_model.specs.declared.limits.TheConstants.{MOST_TICKS}
use Rattle.sporadic_model.specs.SetDef.{SetDef}
use Rattle.schedule_model.specs.RowDef.{RowDef, Trace}
use Rattle.schedule_model.specs.Chosen.{IsSized}
use Rattle.phase_machine.specs.MachineDef.{MachineDef, under}
use Rattle.phase_machine.specs.Shows.{Shows}
use Rattle.phase_machine.specs.Taking.{IsRowFor}

-- Has the machine taken the rows before its tick, and is each of them the chosen one after the rows before it?
pub record AreChosenSoFar (chooses : Trace → ℕ → Type 0) (rows : ℕ → RowDef) (m : MachineDef) : Type 0 where
  pub shows : Shows m rows
  pub chosen : (t : ℕ) → t < m.tick → chooses (under m rows) t

-- Has the schedule this row at the n ticks from tick t on?
abbrev pub StandsFor : (ℕ → RowDef) → ℕ → ℕ → RowDef → Type 0
StandsFor rows t n row = (i : ℕ) → i < n → rows (t + i) ≡ row

-- Can a row more be chosen, for ticks before `end`? The machine's set suits the protocol, and the row to be written over has its sizes.
pub record CanChoose (suiting : SetDef → Type 0) (m : MachineDef) (row : RowDef) (end : ℕ) : Type 0 where
  pub suits : suiting m.list.set
  pub early : m.tick < end
  pub most : end ≤ MOST_TICKS
  pub sized : IsSized m.list.set row

-- Did the machine take this row for n ticks, all of them before `end`? And is a schedule that is chosen so far, and has the row at these
-- ticks, chosen at them too?
pub record TakesChosen (chooses : Trace → ℕ → Type 0) (before after : MachineDef) (row : RowDef) (end n : ℕ) : Type 0 where
  pub list : after.list ≡ before.list
  pub some : 1 ≤ n
  pub tick : after.tick ≡ before.tick + n
  pub within : after.tick ≤ end
  pub fits : IsRowFor before.list row
  pub chosen : (rows : ℕ → RowDef) → AreChosenSoFar chooses rows before → StandsFor rows before.tick n row → AreChosenSoFar chooses rows after

-- Is the machine at a later tick, at most at `end`, and has the row the sizes of its set?
pub record IsLater (before after : MachineDef) (row : RowDef) (end : ℕ) : Type 0 where
  pub list : after.list ≡ before.list
  pub later : before.tick < after.tick
  pub within : after.tick ≤ end
  pub sized : IsSized before.list.set row
