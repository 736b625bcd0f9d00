-- A row that keeps the rules, and which a machine stands before.
use Rattle.std.specs.Prelude.{ℕ}
use Rattle.schedule_model.specs.RowDef.{Trace, row_in}
use Rattle.schedule_model.specs.Fitting.{RowsDef}
use Rattle.schedule_model.specs.Keeping.{KeepsRow}
use Rattle.schedule_model.specs.declared.rule.Rule.{Rule}
use Rattle.phase_machine.specs.MachineDef.{MachineDef, under}
use Rattle.phase_machine.specs.Shows.{Shows}
use Rattle.trace_walk.specs.Runs.{IsAtRun}

-- Has the machine taken the rows before its tick, and does its row, which is of run number i, keep the rules?
pub record IsAtLawfulRow (keeps : Rule → Trace → ℕ → Type 0) (rows : RowsDef) (i : ℕ) (m : MachineDef) : Type 0 where
  pub at : IsAtRun rows i m
  pub shows : Shows m (row_in rows.runs)
  pub lawful : KeepsRow keeps (under m (row_in rows.runs)) m.tick
