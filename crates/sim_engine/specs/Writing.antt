-- How rows are written, one after the other: a list of the runs that have ended, and the run that may still go on.
use Rattle.std.specs.Prelude.{◌≡◌, ◌≢◌, ℕ, ◌+◌, ◌≤◌, true, List, [], ◌∷◌, ◌++◌, length, None, IsTrue, ◌⊎◌}
use Rattle.schedule_model.specs.JobDef.{JobsDef}
use Rattle.schedule_model.specs.RowDef.{RowDef, RunDef, Trace, row_in, ticks_of}
use Rattle.schedule_model.specs.Fitting.{RowsDef, is_sized, is_fitting, first_refusal, with_run}
use Rattle.phase_machine.specs.MachineDef.{MachineDef}
use Rattle.phase_machine.specs.Taking.{IsRowFor}
use Rattle.sim_engine.specs.Joined.{AreJoined}
use Rattle.sim_engine.specs.Simulated.{EachLasts}
use Rattle.sim_engine.specs.Choosing.{AreChosenSoFar}

-- The list of these runs, made for the jobs.
abbrev pub rows_with : JobsDef → List RunDef → RowsDef
rows_with list runs = record {
  processors = list.set.processors;
  resources = length list.set.resources;
  jobs = length list.jobs;
  runs = runs;
}

-- All runs: those that have ended, and the one that may still go on.
abbrev pub all_runs : RowsDef → RunDef → List RunDef
all_runs rows last = rows.runs ++ last ∷ []

-- Can the run end, and be put at the end of the list?
pub record CanEnd (rows : RowsDef) (last : RunDef) : Type 0 where
  pub sized : IsTrue (is_sized rows.processors rows.resources last.row)
  pub free : first_refusal rows last ≡ None

-- The row is that of the last run, which goes on for this many ticks.
pub record GoesOn (rows : RowsDef) (last : RunDef) (row : RowDef) (more : ℕ) (after : RowsDef) (next : RunDef) : Type 0 where
  pub same : last.row ≡ row
  pub kept : after ≡ rows
  pub longer : next ≡ record { ticks = last.ticks + more; row = last.row }

-- The row is another one. So the last run ends, and a run of this row begins, for this many ticks.
pub record BeginsAnew (rows : RowsDef) (last : RunDef) (row : RowDef) (more : ℕ) (after : RowsDef) (next : RunDef) : Type 0 where
  pub other : last.row ≢ row
  pub ended : after ≡ with_run rows last
  pub begun : next ≡ record { ticks = more; row = row }

abbrev pub AddsRows : RowsDef → RunDef → RowDef → ℕ → RowsDef → RunDef → Type 0
AddsRows rows last row more after next = GoesOn rows last row more after next ⊎ BeginsAnew rows last row more after next

-- Is a schedule being written? The runs so far have the rows that the machine has taken, each the chosen one. Each run fits the machine's
-- jobs, lasts a tick or more, and has another row than the run before it.
pub record IsUnderWay (chooses : Trace → ℕ → Type 0) (m : MachineDef) (rows : RowsDef) (last : RunDef) : Type 0 where
  pub chosen : AreChosenSoFar chooses (row_in (all_runs rows last)) m
  pub tick : m.tick ≡ ticks_of rows.runs + last.ticks
  pub made : rows ≡ rows_with m.list rows.runs
  pub fits : is_fitting rows m.list ≡ true
  pub last_fits : IsRowFor m.list last.row
  pub lasts : 1 ≤ last.ticks
  pub lasting : EachLasts rows.runs
  pub joined : AreJoined (all_runs rows last)
