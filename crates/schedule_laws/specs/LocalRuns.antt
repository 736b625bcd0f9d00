-- Does a job execute a Local tick between two ticks?
use Rattle.std.specs.Prelude.{◌≡◌, ℕ, ◌<◌, ◌≤◌, true}
use Rattle.schedule_model.specs.RowDef.{Trace, runs_in}
use Rattle.schedule_model.specs.Phase.{phase_of}
use Rattle.schedule_model.specs.Phase.Phase.{Local}

-- A tick from u on and before v at which job j is Local and runs.
pub record LocalRun (w : Trace) (u v j : ℕ) : Type 0 where
  pub tick : ℕ
  pub from : u ≤ tick
  pub before : tick < v
  pub local : phase_of w tick j ≡ Local
  pub runs : runs_in (w.row tick) j ≡ true
