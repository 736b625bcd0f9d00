-- The schedule that a protocol chooses for jobs, as a list of runs.
use Rattle.std.specs.Prelude.{◌≡◌, ℕ, ◌<◌, ◌≤◌, List, [], ◌∷◌}
use Rattle.schedule_model.specs.JobDef.{JobsDef}
use Rattle.schedule_model.specs.RowDef.{RunDef, Trace, trace_in, ticks_of}
use Rattle.sim_engine.specs.Joined.{AreJoined}

-- Does each run last a tick or more?
abbrev pub EachLasts : List RunDef → Type 0
EachLasts [] = Unit {0}
EachLasts (run ∷ runs) = (1 ≤ run.ticks) × EachLasts runs

-- Is it the schedule of n ticks in which each row is the chosen one after the rows before it, with each run as long as it can be?
pub record IsSimulated (chooses : Trace → ℕ → Type 0) (jobs : JobsDef) (n : ℕ) (runs : List RunDef) : Type 0 where
  pub ticks : ticks_of runs ≡ n
  pub chosen : (t : ℕ) → t < n → chooses (trace_in jobs runs) t
  pub lasting : EachLasts runs
  pub joined : AreJoined runs
