-- The charge of a tick, whatever the rows before it.
use Rattle.std.specs.Prelude.{◌≡◌, ℕ, ◌<◌, Option, length, IfSome}
use Rattle.schedule_model.specs.RowDef.{RowDef}
use Rattle.schedule_model.specs.SharedRules.{KeepsRun}
use Rattle.schedule_model.specs.declared.job.JobId.{JobId}
use Rattle.phase_machine.specs.MachineDef.{MachineDef, under}
use Rattle.phase_machine.specs.Shows.{Shows}
use Rattle.blocking_columns.specs.declared.columns.Class.{Class}
use Rattle.charged_protocols.specs.Seen.{charge_seen}
use Rattle.spin_charging.specs.SpinCharges.{spin_charge}

-- If the row keeps Run: is it the charge of the tick for job j? And is it to a job of the list?
pub record IsSpinCharge (m : MachineDef) (row : RowDef) (j : ℕ) (named : Option (JobId × Class)) : Type 0 where
  pub value : (rows : ℕ → RowDef) → Shows m rows → rows m.tick ≡ row → KeepsRun (under m rows) m.tick
      → charge_seen named ≡ spin_charge (under m rows) m.tick j
  pub listed : IfSome named (λ c. c.0.0 < length m.list.jobs)
