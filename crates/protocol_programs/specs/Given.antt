-- What the functions here are given: a task of a set, and bounds for its tasks. In each, i is the analysed task.
use Rattle.std.specs.Prelude.{ℕ, ◌<◌, List, length}
use Rattle.sporadic_model.specs.SetDef.{SetDef}
use Rattle.sporadic_model.specs.Bounds.{AreWithinDeadlines, AreFromCostsAbove}

-- Has i a program at these bounds? The set is served, i is a task of it, and each task has a bound, at most its latest one.
pub record HasProgramAt (served : SetDef → Type 0) (set : SetDef) (i : ℕ) (bounds : List ℕ) : Type 0 where
  pub serves : served set
  pub task : i < length set.tasks
  pub within : AreWithinDeadlines set bounds

-- Is i a task of the set, and has each task such a bound, both in the earlier vector and in that of now?
pub record IsTaskAtBoth (set : SetDef) (i : ℕ) (before bounds : List ℕ) : Type 0 where
  pub task : i < length set.tasks
  pub earlier : AreWithinDeadlines set before
  pub within : AreWithinDeadlines set bounds

-- Can the interference of i be counted at these bounds? It is a task of the set, each task has such a bound, and that of each higher task is at
-- least its cost.
pub record CanCountInterference (set : SetDef) (i : ℕ) (bounds : List ℕ) : Type 0 where
  pub task : i < length set.tasks
  pub within : AreWithinDeadlines set bounds
  pub from_costs : AreFromCostsAbove set bounds i
