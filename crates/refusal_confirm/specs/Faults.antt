-- Which fault has a refusal? The first test that fails, at the first step that fails one.
use Rattle.std.specs.Prelude.{◌≡◌, ℕ, ◌+◌, ◌<◌, List, length, Result, Ok, Err}
use Rattle.program_sources.specs.Recurrence.{SourceDef}
use Rattle.refusal_laws.specs.Steps.{StepDef, step_at, vector_before, Holds}
use Rattle.refusal_confirm.specs.Tests.{IsCalm, NamesTask, Rises, HasSize, KeepsRows, IsFirstBroken, program_at, ReachesValue}
use Rattle.refusal_confirm.specs.Tests.{IsEntered, Passes, IsOver}
use Rattle.refusal_confirm.specs.declared.fault.Fault.{Fault}
use Rattle.refusal_confirm.specs.declared.fault.Fault.TheVariants as fault

-- Does step k fail this test, and pass those before it?
abbrev pub FailsAfter : SourceDef → List StepDef → ℕ → Type 0
FailsAfter f steps k = IsCalm f.set steps k → ⊥

abbrev pub FailsTask : SourceDef → List StepDef → ℕ → Type 0
FailsTask f steps k = IsCalm f.set steps k × (NamesTask f.set (step_at steps k) → ⊥)

abbrev pub FailsRising : SourceDef → List StepDef → ℕ → Type 0
FailsRising f steps k =
    IsCalm f.set steps k × NamesTask f.set (step_at steps k)
    × (Rises (vector_before f.set steps k) (step_at steps k) → ⊥)

-- Does the point of step s fail this test at the bounds v, and pass those before it?
abbrev pub FailsSize : SourceDef → List ℕ → StepDef → Type 0
FailsSize f v s = HasSize (program_at f v s) s.point → ⊥

abbrev pub FailsRow : ℕ → SourceDef → List ℕ → StepDef → Type 0
FailsRow r f v s = HasSize (program_at f v s) s.point × IsFirstBroken (program_at f v s) s.point r

abbrev pub FailsLow : SourceDef → List ℕ → StepDef → Type 0
FailsLow f v s = HasSize (program_at f v s) s.point × KeepsRows (program_at f v s) s.point × (ReachesValue f v s → ⊥)

-- Does step k pass the tests that need no program, and fail this test of its point, at the bounds before it?
abbrev pub FailsAt : (SourceDef → List ℕ → StepDef → Type 0) → SourceDef → List StepDef → ℕ → Type 0
FailsAt test f steps k = IsEntered f.set steps k × test f (vector_before f.set steps k) (step_at steps k)

-- Is step n, counted from 1, the first that fails a test, and is it this one?
pub record IsFirst (fails : SourceDef → List StepDef → ℕ → Type 0) (f : SourceDef) (steps : List StepDef) (n : ℕ) : Type 0 where
  pub step : ℕ
  pub number : n ≡ step + 1
  pub within : step < length steps
  pub earlier : (j : ℕ) → j < step → Passes f steps j
  pub failed : fails f steps step

-- Is this the first fault? The last test is over all steps: there is a last one, whose value is above its latest bound.
abbrev pub IsFault : Fault → SourceDef → List StepDef → Type 0
IsFault (fault.After n) f steps = IsFirst FailsAfter f steps n
IsFault (fault.Task n) f steps = IsFirst FailsTask f steps n
IsFault (fault.Rising n) f steps = IsFirst FailsRising f steps n
IsFault (fault.Size n) f steps = IsFirst (FailsAt FailsSize) f steps n
IsFault (fault.Row n row) f steps = (r : ℕ) × (row ≡ r + 1) × IsFirst (FailsAt (FailsRow r)) f steps n
IsFault (fault.Low n) f steps = IsFirst (FailsAt FailsLow) f steps n
IsFault fault.Open f steps = ((k : ℕ) → k < length steps → Passes f steps k) × (IsOver f.set steps → ⊥)
IsFault fault.Memory f steps = ⊥

-- What the answer says: the refusal holds, or this is its first fault. Only want of memory says nothing of it.
abbrev pub Confirms : Result (Unit {0}) Fault → SourceDef → List StepDef → Type 0
Confirms (Ok done) f steps = Holds f steps
Confirms (Err fault.Memory) f steps = Unit {0}
Confirms (Err e) f steps = IsFault e f steps

-- Is this fault the answer? The only other answer is want of memory.
abbrev pub Names : Result (Unit {0}) Fault → Fault → Type 0
Names (Ok done) e = ⊥
Names (Err fault.Memory) e = Unit {0}
Names (Err d) e = d ≡ e
