-- What the functions here are given: a machine that has walked some rows, and may walk more. `suiting` are the sets that suit the protocol,
-- and `fitting` those of which the keeper can keep notes.
use Rattle.std.specs.Prelude.{◌≡◌, ℕ, ◌<◌, length}
use Rattle.sporadic_model.specs.SetDef.{SetDef}
use Rattle.schedule_model.specs.RowDef.{Trace, row_in}
use Rattle.schedule_model.specs.Fitting.{RowsDef}
use Rattle.schedule_model.specs.declared.rule.Rule.{Rule}
use Rattle.phase_machine.specs.MachineDef.{MachineDef}
use Rattle.trace_walk.specs.Runs.{IsInRun, IsBeforeRun}
use Rattle.trace_walk.specs.Reached.{IsReached}

-- Can it walk on: is the set one that suits the protocol and the keeper, and are the rows before the machine's tick walked?
pub record CanWalkOn {R : Type 0} (suiting fitting : SetDef → Type 0) (keeps : Rule → Trace → ℕ → Type 0) (kept : Trace → ℕ → R → Type 0)
    (rows : RowsDef) (m : MachineDef) (now : R) : Type 0
  where
    pub suits : suiting m.list.set
    pub keeper : fitting m.list.set
    pub reached : IsReached keeps kept (row_in rows.runs) m now

-- Can it, and does the machine stand in run number i, with so many of its ticks left?
pub record CanWalkStretch {R : Type 0} (suiting fitting : SetDef → Type 0) (keeps : Rule → Trace → ℕ → Type 0) (kept : Trace → ℕ → R → Type 0)
    (rows : RowsDef) (i left : ℕ) (m : MachineDef) (now : R) : Type 0
  where
    pub on : CanWalkOn suiting fitting keeps kept rows m now
    pub run : IsInRun rows i m left

-- Can it, and is i the number of a run, with the machine before that run?
pub record CanWalkRun {R : Type 0} (suiting fitting : SetDef → Type 0) (keeps : Rule → Trace → ℕ → Type 0) (kept : Trace → ℕ → R → Type 0)
    (rows : RowsDef) (i : ℕ) (m : MachineDef) (now : R) : Type 0
  where
    pub on : CanWalkOn suiting fitting keeps kept rows m now
    pub within : i < length rows.runs
    pub before : IsBeforeRun rows i m

-- Can it, and is i, the run at which the reader is, the first, with the machine before all runs?
pub record CanWalkAll {R : Type 0} (suiting fitting : SetDef → Type 0) (keeps : Rule → Trace → ℕ → Type 0) (kept : Trace → ℕ → R → Type 0)
    (rows : RowsDef) (i : ℕ) (m : MachineDef) (now : R) : Type 0
  where
    pub on : CanWalkOn suiting fitting keeps kept rows m now
    pub first : i ≡ 0
    pub before : IsBeforeRun rows 0 m
