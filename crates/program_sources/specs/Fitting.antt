-- Which bounds satisfy the recurrence of a source of programs within the deadlines, and which of them are the least. A bound counts from a
-- job's release, and a deadline from its arrival. So a bound is compared with the task's latest bound.
--
-- These definitions compare all vectors of bounds, and contain no way to find one. They don't need a greatest blocking: every possible
-- response time has to be within the bound.
use Rattle.std.specs.Prelude.{◌≡◌, ℕ, ◌<◌, ◌≤◌, List, length, slice_index}
use Rattle.sporadic_model.specs.SetDef.{task_at, latest_bound}
use Rattle.sporadic_model.specs.Bounds.{AtMost}
use Rattle.program_sources.specs.Recurrence.{SourceDef, ComesUp, IsResponse}

-- How many tasks has the source's set?
abbrev pub tasks_of : SourceDef → ℕ
tasks_of f = length f.set.tasks

-- Do the bounds fit? Each response time that is possible at them is at most its bound, and each bound is at most the latest one.
pub record AreFitting (f : SourceDef) (s : List ℕ) : Type 0 where
  pub one_each : length s ≡ tasks_of f
  pub kept : (i v : ℕ) → i < tasks_of f → ComesUp f s i v → v ≤ slice_index s i
  pub within : (i : ℕ) → i < tasks_of f → slice_index s i ≤ latest_bound (task_at f.set i)

-- Do the bounds fit, and are they at most every fitting vector in each place?
pub record AreLeastFitting (f : SourceDef) (r : List ℕ) : Type 0 where
  pub fitting : AreFitting f r
  pub least : (s : List ℕ) → AreFitting f s → AtMost (tasks_of f) r s

-- The latest bound of task i. And: are the bounds at most every fitting vector? Contracts use these two names.
abbrev pub latest_of : SourceDef → ℕ → ℕ
latest_of f i = latest_bound (task_at f.set i)

abbrev pub AreBelowAllFitting : SourceDef → List ℕ → Type 0
AreBelowAllFitting f r = (s : List ℕ) → AreFitting f s → AtMost (tasks_of f) r s

-- Does the recurrence never fall when its bounds rise?
abbrev pub NeverFalls : SourceDef → Type 0
NeverFalls f = (r s : List ℕ) (i v w : ℕ) → i < tasks_of f → AtMost (tasks_of f) r s → IsResponse f r i v → IsResponse f s i w → v ≤ w

-- Is there, for each response time that is possible at some bounds, one that is no less and is possible at greater bounds?
abbrev pub ComesUpAbove : SourceDef → Type 0
ComesUpAbove f = (r s : List ℕ) (i v : ℕ) → i < tasks_of f → AtMost (tasks_of f) r s → ComesUp f r i v
    → (w : ℕ) × (ComesUp f s i w) × (v ≤ w)
