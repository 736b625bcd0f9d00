-- What the functions that make a set are given, and what they draw. Here s is the generator's state before the draws, and t is its state after
-- them.
use Rattle.std.specs.Prelude.{◌≡◌, ℕ, ◌<◌, ◌≤◌, List, ◌++◌, nat_lt, length, map}
use Rattle.std.specs.List.{position_or_len}
use Rattle.sporadic_model.specs.Seen.{request_seen, task_seen}
use Rattle.sporadic_model.specs.declared.parts.RequestPart.{RequestPart}
use Rattle.sporadic_model.specs.declared.parts.TaskPart.{TaskPart}
use Rattle.study_gen.specs.Generator.{next_state}
use Rattle.study_gen.specs.Sets.{entry_at, behind_entry, entries_at, period_at, task_drawn, behind_task}

-- Have the entries of a task got the one for the resource of this name, if the task requests that?
pub record DrawsEntry (name : List ℕ) (before now : List RequestPart) (s t : ℕ) : Type 0 where
  pub entries : map request_seen now ≡ map request_seen before ++ entry_at name s
  pub state : t ≡ behind_entry s

-- Are these all entries of a task?
pub record AreDrawn (all : List RequestPart) (s t : ℕ) : Type 0 where
  pub entries : map request_seen all ≡ entries_at s
  pub state : t ≡ behind_entry (behind_entry (behind_entry s))

-- Is this the period of a task?
pub record IsPeriodDrawn (period s t : ℕ) : Type 0 where
  pub value : period ≡ period_at s
  pub state : t ≡ next_state s
  pub most : period ≤ 1000000

-- Is j the number of a task in a set of step k?
pub record IsTaskOfStep (k j : ℕ) : Type 0 where
  pub step : k ≤ 8
  pub task : j < 8

-- Is x task number j of step k?
pub record IsTaskDrawn (k j : ℕ) (x : TaskPart) (s t : ℕ) : Type 0 where
  pub task : task_seen x ≡ task_drawn k j s
  pub state : t ≡ behind_task s

-- Is this the place of the first task of a longer period, or the end?
pub record IsPlaceFor (tasks : List TaskPart) (period place : ℕ) : Type 0 where
  pub value : place ≡ position_or_len (λ t. nat_lt period t.period) (map task_seen tasks)
  pub within : place ≤ length tasks
