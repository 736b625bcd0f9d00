-- What a test of one step answers.
use Rattle.std.specs.Prelude.{◌≡◌, ℕ, ◌+◌, ◌<◌, ◌≤◌, List, Bool, true, false, Option, Some, None, Result, Ok, Err, slice_set}
use Rattle.sporadic_model.specs.SetDef.{SetDef, task_at, latest_bound}
use Rattle.sporadic_model.specs.declared.ids.TaskId.{TaskId}
use Rattle.program_form.specs.Certificate.{DualDef}
use Rattle.program_form.specs.Program.{ProgramDef}
use Rattle.program_sources.specs.Recurrence.{SourceDef}
use Rattle.refusal_laws.specs.Steps.{StepDef, place_of}
use Rattle.refusal_confirm.specs.Tests.{NamesTask, Rises, KeepsRows, IsFirstBroken, IsShown}
use Rattle.refusal_confirm.specs.Faults.{FailsAfter, FailsTask, FailsRising, FailsSize, FailsRow, FailsLow, FailsAt}
use Rattle.refusal_confirm.specs.declared.fault.Fault.{Fault}
use Rattle.refusal_confirm.specs.declared.fault.Fault.TheVariants as fault
use Rattle.refusal_confirm.specs.declared.fault.Part.{Part}
use Rattle.refusal_confirm.specs.declared.fault.Part.TheVariants as part

-- Is this the first test that step k fails?
abbrev pub FailsPart : Part → SourceDef → List StepDef → ℕ → Type 0
FailsPart part.After = FailsAfter
FailsPart part.Task = FailsTask
FailsPart part.Rising = FailsRising
FailsPart part.Size = FailsAt FailsSize
FailsPart (part.Row r) = FailsAt (FailsRow r)
FailsPart part.Low = FailsAt FailsLow

-- The fault of step n, counted from 1, if it fails this test.
abbrev pub fault_of : Part → ℕ → Fault
fault_of part.After n = fault.After n
fault_of part.Task n = fault.Task n
fault_of part.Rising n = fault.Rising n
fault_of part.Size n = fault.Size n
fault_of (part.Row r) n = fault.Row n (r + 1)
fault_of part.Low n = fault.Low n

-- What the tests that need no program find: the step's task, or the first test that it fails. Here v are the bounds before it, and `over`
-- says whether an earlier step's value was above its latest bound.
abbrev pub Enters : Result TaskId Part → SetDef → List ℕ → Bool → StepDef → Type 0
Enters (Ok i) set v over s = (over ≡ false) × NamesTask set s × Rises v s × (i.0 ≡ place_of s)
Enters (Err part.After) set v over s = over ≡ true
Enters (Err part.Task) set v over s = (over ≡ false) × (NamesTask set s → ⊥)
Enters (Err part.Rising) set v over s = (over ≡ false) × NamesTask set s × (Rises v s → ⊥)
Enters (Err _) set v over s = ⊥

-- What a step of task i does: its value becomes the task's bound. Or the value is above the latest bound, and the bounds stay.
abbrev pub Takes : Bool → List ℕ → SetDef → List ℕ → ℕ → ℕ → Type 0
Takes true now set v i value = (latest_bound (task_at set i) < value) × (now ≡ v)
Takes false now set v i value = (value ≤ latest_bound (task_at set i)) × (now ≡ slice_set v i value)

-- The first row that a point breaks, or none if it keeps all rows.
abbrev pub FindsBroken : Option ℕ → ProgramDef → DualDef → Type 0
FindsBroken None p point = KeepsRows p point
FindsBroken (Some r) p point = IsFirstBroken p point r

-- What the tests of a step's point find at the bounds v.
abbrev pub FindsPart : Option Part → SourceDef → List ℕ → StepDef → Type 0
FindsPart None f v s = IsShown f v s
FindsPart (Some part.Size) f v s = FailsSize f v s
FindsPart (Some (part.Row r)) f v s = FailsRow r f v s
FindsPart (Some part.Low) f v s = FailsLow f v s
FindsPart (Some _) f v s = ⊥
