-- A row that can be chosen at tick t, after the schedule's rows before it.
use Rattle.std.specs.Prelude.{ℕ}
use Rattle.schedule_model.specs.RowDef.{RowDef, Trace}
use Rattle.shared_choosing.specs.NextRow.{with_row}
use Rattle.spin_rules.specs.SpinRules.{IsSpinChoice}

pub record HasChoice (w : Trace) (t : ℕ) : Type 0 where
  pub row : RowDef
  pub chosen : IsSpinChoice (with_row w t row) t
