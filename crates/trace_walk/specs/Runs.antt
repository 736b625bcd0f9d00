-- Where in a list of runs of equal rows is a machine that takes them tick by tick?
use Rattle.std.specs.Prelude.{◌≡◌, ℕ, ◌+◌, ◌<◌, ◌≤◌, true, List, length, take}
use Rattle.sporadic_model.specs.declared.limits.TheConstants.{MOST_TICKS}
use Rattle.schedule_model.specs.RowDef.{RunDef, row_in, ticks_of}
use Rattle.schedule_model.specs.Fitting.{RowsDef, is_fitting}
use Rattle.schedule_model.specs.ReadRuns.{run_of}
use Rattle.phase_machine.specs.MachineDef.{MachineDef}

-- How many ticks do the runs before number i last?
abbrev pub ticks_before : List RunDef → ℕ → ℕ
ticks_before runs i = ticks_of (take i runs)

-- Is the machine at a tick of run number i, and do the rows fit its jobs?
pub record IsAtRun (rows : RowsDef) (i : ℕ) (m : MachineDef) : Type 0 where
  pub within : i < length rows.runs
  pub fits : is_fitting rows m.list ≡ true
  pub here : row_in rows.runs m.tick ≡ (run_of rows.runs i).row

-- Has run number i its row at this tick and the next ones, this many in all?
abbrev pub StandsFor : List RunDef → ℕ → ℕ → ℕ → Type 0
StandsFor runs i tick left = (k : ℕ) → k < left → row_in runs (tick + k) ≡ (run_of runs i).row

-- Does the machine stand in run number i, with so many of its ticks left?
pub record IsInRun (rows : RowsDef) (i : ℕ) (m : MachineDef) (left : ℕ) : Type 0 where
  pub at : IsAtRun rows i m
  pub stands : StandsFor rows.runs i m.tick left
  pub some : 1 ≤ left
  pub early : m.tick + left ≤ MOST_TICKS

-- Is the machine before run number i, of rows that fit its jobs and are no more than a schedule may have?
pub record IsBeforeRun (rows : RowsDef) (i : ℕ) (m : MachineDef) : Type 0 where
  pub fits : is_fitting rows m.list ≡ true
  pub most : ticks_of rows.runs ≤ MOST_TICKS
  pub tick : m.tick ≡ ticks_before rows.runs i
