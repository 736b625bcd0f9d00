-- Steps from the costs to a bound that is above the latest one, each by a point of a task's program. And when they refuse a set.
--
-- Tasks are counted from 1 in a step, and from 0 everywhere else.
use Rattle.std.specs.Prelude.{◌≡◌, ℕ, ◌+◌, ◌-◌, ◌/◌, ◌<◌, ◌≤◌, List, [], ◌∷◌, map, take, length, slice_index, slice_index_or, slice_set}
use Rattle.program_form.specs.Certificate.{DualDef}
use Rattle.program_form.specs.Program.{ProgramDef, columns}
use Rattle.program_form.specs.Points.{IsScaledPoint, worth}
use Rattle.sporadic_model.specs.SetDef.{SetDef, task_at, latest_bound}
use Rattle.program_sources.specs.Recurrence.{SourceDef, response_with}
use Rattle.program_sources.specs.Fitting.{tasks_of}

-- A step: its task, the task's next bound, and a point of its program. The point gives column c the value of number c over the denominator.
pub record StepDef : Type 0 where
  pub task : ℕ
  pub value : ℕ
  pub point : DualDef

-- What a look-up past the last step gives.
abbrev pub no_step : StepDef
no_step = record { task = 0; value = 0; point = record { den = 0; num = [] } }

-- Step k of a list, counted from 0.
abbrev pub step_at : List StepDef → ℕ → StepDef
step_at steps k = slice_index_or steps k no_step

-- The step's task, counted from 0.
abbrev pub place_of : StepDef → ℕ
place_of s = s.task - 1

-- The bounds after the step: its value is the new bound of its task.
abbrev pub with_step : List ℕ → StepDef → List ℕ
with_step v s = slice_set v (place_of s) s.value

-- The bounds v after all these steps, one after another.
abbrev pub after_steps : List ℕ → List StepDef → List ℕ
after_steps v [] = v
after_steps v (s ∷ steps) = after_steps (with_step v s) steps

-- Is each point's denominator at least 1?
abbrev pub HasDenominators : List StepDef → Type 0
HasDenominators steps = (k : ℕ) → k < length steps → 1 ≤ (step_at steps k).point.den

-- Each task's cost.
abbrev pub costs_of : SetDef → List ℕ
costs_of set = map (λ t. t.cost) set.tasks

-- The bounds before step k: the costs with the values of the earlier steps.
abbrev pub vector_before : SetDef → List StepDef → ℕ → List ℕ
vector_before set steps k = after_steps (costs_of set) (take k steps)

-- How many whole ticks is the point worth?
abbrev pub whole_worth : ProgramDef → DualDef → ℕ
whole_worth p point = worth p (slice_index point.num) / point.den

-- Does the point show that task i's response time at the bounds v is at least this value, which is above its bound there? It is a scaled
-- point of the task's program at v. The cost, the point's worth in whole ticks and the interference there together are at least the value.
pub record IsStepAt (f : SourceDef) (v : List ℕ) (i value : ℕ) (point : DualDef) : Type 0 where
  pub task : i < tasks_of f
  pub rising : slice_index v i < value
  pub size : length point.num ≡ columns (f.program i v)
  pub rows : IsScaledPoint (f.program i v) point.den (slice_index point.num)
  pub low : value ≤ response_with f v i (whole_worth (f.program i v) point)

-- Is it a step at the bounds v: does it name a task, and does its point show its value there?
pub record IsStep (f : SourceDef) (v : List ℕ) (s : StepDef) : Type 0 where
  pub from_one : 1 ≤ s.task
  pub at : IsStepAt f v (place_of s) s.value s.point

-- Is the step's value above its task's latest bound?
abbrev pub PassesLatest : SetDef → StepDef → Type 0
PassesLatest set s = latest_bound (task_at set (place_of s)) < s.value

-- Does the refusal hold? Each step is one at the bounds before it. The value of the last step, and of no earlier one, is above its task's
-- latest bound.
pub record Holds (f : SourceDef) (steps : List StepDef) : Type 0 where
  pub some : 0 < length steps
  pub each : (k : ℕ) → k < length steps → IsStep f (vector_before f.set steps k) (step_at steps k)
  pub within : (k : ℕ) → k + 1 < length steps → PassesLatest f.set (step_at steps k) → ⊥
  pub passes : (k : ℕ) → k + 1 ≡ length steps → PassesLatest f.set (step_at steps k)
