-- What is known of the rows of a stretch.
use Rattle.std.proofs.Common.{◌≡◌, ℕ, Bool, sym, subst}
use Rattle.schedule_model.specs.RowDef.{Trace, RowDef}
use Rattle.schedule_model.specs.ProtocolLaws.{IsSoundRow}
use Rattle.schedule_model.specs.Chosen.{IsSized}
use Rattle.schedule_model.specs.TakenRows.{CanBeTaken}
use Rattle.schedule_laws.proofs.TakenRows.{sound_taken}
use Rattle.phase_machine.specs.MachineDef.{MachineDef, under}
use Rattle.phase_machine.specs.Shows.{Shows}
use Rattle.phase_machine.specs.Taking.{IsRowFor, CanTake}
use Rattle.phase_machine.proofs.Facts.{can_take}

-- A row that fits the jobs and is sound is possible at the machine's tick, and the machine can take it.
pub row_stands : (interferes : Trace → ℕ → ℕ → Bool) (rows : ℕ → RowDef) (m : MachineDef) (row : RowDef)
    → rows m.tick ≡ row → IsRowFor m.list row → IsSoundRow interferes (under m rows) m.tick
    → CanBeTaken (under m rows) m.tick
row_stands interferes rows m row here fits sound =
    sound_taken interferes (under m rows) m.tick (subst (λ (r : RowDef). IsSized m.list.set r) (sym here) fits.sized) sound

pub row_taken : (rows : ℕ → RowDef) (m : MachineDef) (row : RowDef) → rows m.tick ≡ row → Shows m rows
    → CanBeTaken (under m rows) m.tick → CanTake m row
row_taken rows m row here shows can = subst (λ (r : RowDef). CanTake m r) here (can_take m rows shows can)

pub row_can : (interferes : Trace → ℕ → ℕ → Bool) (rows : ℕ → RowDef) (m : MachineDef) (row : RowDef)
    → rows m.tick ≡ row → Shows m rows → IsRowFor m.list row → IsSoundRow interferes (under m rows) m.tick
    → CanTake m row
row_can interferes rows m row here shows fits sound = row_taken rows m row here shows (row_stands interferes rows m row here fits sound)
