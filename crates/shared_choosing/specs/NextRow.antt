-- A schedule with another row at one tick.
use Rattle.std.specs.Prelude.{ℕ, ◌==◌, if◌then◌else◌}
use Rattle.schedule_model.specs.RowDef.{RowDef, Trace}
use Rattle.schedule_model.specs.SharedRules.{Ranks}
use Rattle.schedule_model.specs.Chosen.{IsSharedChoice}

abbrev pub with_row : Trace → ℕ → RowDef → Trace
with_row w t row = record { set = w.set; jobs = w.jobs; row = λ u. if u == t then row else w.row u }

-- A row that can be chosen at tick t, after the schedule's rows before it.
pub record HasChoice (o : Ranks) (w : Trace) (t : ℕ) : Type 0 where
  pub row : RowDef
  pub chosen : IsSharedChoice o (with_row w t row) t
