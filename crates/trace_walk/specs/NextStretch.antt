-- The steady stretch that comes next for a machine.
use Rattle.std.specs.Prelude.{ℕ, ◌+◌, ◌≤◌}
use Rattle.sporadic_model.specs.declared.limits.TheConstants.{MOST_TICKS}
use Rattle.schedule_model.specs.RowDef.{Trace, row_in}
use Rattle.schedule_model.specs.Fitting.{RowsDef}
use Rattle.schedule_model.specs.Keeping.{KeepsRow}
use Rattle.schedule_model.specs.TakenRows.{CanBeTaken}
use Rattle.schedule_model.specs.declared.rule.Rule.{Rule}
use Rattle.schedule_laws.specs.Steady.{IsSteady}
use Rattle.phase_machine.specs.MachineDef.{MachineDef, under}
use Rattle.phase_machine.specs.Shows.{Shows}
use Rattle.trace_walk.specs.Runs.{IsAtRun}

-- Has the machine taken the rows before its tick? And are the next n rows, all of run number i, a steady stretch whose first row can be
-- taken and keeps the rules?
pub record IsNextStretch (keeps : Rule → Trace → ℕ → Type 0) (rows : RowsDef) (i : ℕ) (m : MachineDef) (n : ℕ) : Type 0 where
  pub at : IsAtRun rows i m
  pub shows : Shows m (row_in rows.runs)
  pub can : CanBeTaken (under m (row_in rows.runs)) m.tick
  pub lawful : KeepsRow keeps (under m (row_in rows.runs)) m.tick
  pub steady : IsSteady (under m (row_in rows.runs)) m.tick n
  pub some : 1 ≤ n
  pub early : m.tick + n ≤ MOST_TICKS
