-- The tests that the steps of a refusal pass if it holds, in the order in which they are tried.
use Rattle.std.specs.Prelude.{◌≡◌, ℕ, ◌+◌, ◌*◌, ◌<◌, ◌≤◌, List, length, slice_index}
use Rattle.number_laws.specs.Sums.{sum_below}
use Rattle.program_form.specs.Certificate.{DualDef}
use Rattle.program_form.specs.Program.{ProgramDef, columns, height, entry, limit}
use Rattle.sporadic_model.specs.SetDef.{SetDef}
use Rattle.program_sources.specs.Recurrence.{SourceDef, response_with}
use Rattle.refusal_laws.specs.Steps.{StepDef, step_at, place_of, vector_before, whole_worth, PassesLatest}

-- Is no value of a step before step k above its task's latest bound?
abbrev pub IsCalm : SetDef → List StepDef → ℕ → Type 0
IsCalm set steps k = (j : ℕ) → j < k → PassesLatest set (step_at steps j) → ⊥

-- Does the step name a task of the set?
abbrev pub NamesTask : SetDef → StepDef → Type 0
NamesTask set s = (1 ≤ s.task) × (s.task ≤ length set.tasks)

-- Is its value above its task's bound in v?
abbrev pub Rises : List ℕ → StepDef → Type 0
Rises v s = slice_index v (place_of s) < s.value

-- Has a point a number for each column of a program?
abbrev pub HasSize : ProgramDef → DualDef → Type 0
HasSize p point = length point.num ≡ columns p

-- Does it keep row r: is the sum of coefficient times number at most the limit times the denominator?
abbrev pub KeepsRow : ProgramDef → DualDef → ℕ → Type 0
KeepsRow p point r = sum_below (columns p) (λ c. entry p r c * slice_index point.num c) ≤ point.den * limit p r

-- Does it keep each row?
abbrev pub KeepsRows : ProgramDef → DualDef → Type 0
KeepsRows p point = (r : ℕ) → r < height p → KeepsRow p point r

-- Is r the first row that it doesn't keep?
pub record IsFirstBroken (p : ProgramDef) (point : DualDef) (r : ℕ) : Type 0 where
  pub within : r < height p
  pub broken : KeepsRow p point r → ⊥
  pub earlier : (k : ℕ) → k < r → KeepsRow p point k

-- The program of the step's task at the bounds v.
abbrev pub program_at : SourceDef → List ℕ → StepDef → ProgramDef
program_at f v s = f.program (place_of s) v

-- Are the task's cost, the point's worth in whole ticks and the interference at v together at least the step's value?
abbrev pub ReachesValue : SourceDef → List ℕ → StepDef → Type 0
ReachesValue f v s = s.value ≤ response_with f v (place_of s) (whole_worth (program_at f v s) s.point)

-- Does step k pass the tests that need no program?
pub record IsEntered (set : SetDef) (steps : List StepDef) (k : ℕ) : Type 0 where
  pub calm : IsCalm set steps k
  pub task : NamesTask set (step_at steps k)
  pub rising : Rises (vector_before set steps k) (step_at steps k)

-- Does its point pass the tests at the bounds v?
pub record IsShown (f : SourceDef) (v : List ℕ) (s : StepDef) : Type 0 where
  pub size : HasSize (program_at f v s) s.point
  pub rows : KeepsRows (program_at f v s) s.point
  pub reached : ReachesValue f v s

-- Does step k pass all tests? Those of its point are at the bounds before it.
pub record Passes (f : SourceDef) (steps : List StepDef) (k : ℕ) : Type 0 where
  pub entered : IsEntered f.set steps k
  pub shown : IsShown f (vector_before f.set steps k) (step_at steps k)

-- Is there a last step, and is its value above its task's latest bound?
pub record IsOver (set : SetDef) (steps : List StepDef) : Type 0 where
  pub last : ℕ
  pub is_last : last + 1 ≡ length steps
  pub passes : PassesLatest set (step_at steps last)
