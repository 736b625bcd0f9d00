-- Vectors of bounds on response times: lists with a number of ticks for each task.
use Rattle.std.specs.Prelude.{◌≡◌, ℕ, ◌*◌, ◌<◌, ◌≤◌, List, length, slice_index, refl}
use Rattle.sporadic_model.specs.SetDef.{SetDef, task_at, latest_bound}
use Rattle.sporadic_model.specs.declared.limits.TheConstants.{MOST_TICKS}

-- Is r at most s in each of the first n places?
abbrev pub AtMost : ℕ → List ℕ → List ℕ → Type 0
AtMost n r s = (i : ℕ) → i < n → slice_index r i ≤ slice_index s i

-- Has r a bound for each task, at most the task's latest bound? Then also a job that is released as late as it may be meets its deadline.
pub record AreWithinDeadlines (set : SetDef) (r : List ℕ) : Type 0 where
  pub one_each : length r ≡ length set.tasks
  pub to_latest : (i : ℕ) → i < length set.tasks → slice_index r i ≤ latest_bound (task_at set i)

-- Are the bounds of all tasks higher than i at least their costs?
abbrev pub AreFromCostsAbove : SetDef → List ℕ → ℕ → Type 0
AreFromCostsAbove set r i = (h : ℕ) → h < i → (task_at set h).cost ≤ slice_index r h

-- Has r a bound for each task, from the task's cost to its latest bound?
pub record IsInRange (set : SetDef) (r : List ℕ) : Type 0 where
  pub one_each : length r ≡ length set.tasks
  pub from_cost : (i : ℕ) → i < length set.tasks → (task_at set i).cost ≤ slice_index r i
  pub to_latest : (i : ℕ) → i < length set.tasks → slice_index r i ≤ latest_bound (task_at set i)

-- The most ticks that the recurrence counts for the jobs of one higher task: those of a window, of a bound, and of one job more.
abbrev pub most_of_one_task : ℕ
most_of_one_task = 3 * MOST_TICKS

pub most_of_one_task-is : most_of_one_task ≡ 3000000000
most_of_one_task-is = refl
