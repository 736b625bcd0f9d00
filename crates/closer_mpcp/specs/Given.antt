-- What the functions here are given: tasks, a resource, bounds, windows and columns that belong together. In each, i is the analysed task, and
-- x and y are any tasks.
use Rattle.std.specs.Prelude.{ℕ, ◌<◌, ◌≤◌, Bool, List, length, slice_index, Option, IfSome}
use Rattle.sporadic_model.specs.SetDef.{SetDef}
use Rattle.sporadic_model.specs.declared.ids.ResourceId.{ResourceId}
use Rattle.sporadic_model.specs.Bounds.{AreWithinDeadlines}
use Rattle.blocking_columns.specs.declared.columns.Fragment.{Fragment}
use Rattle.blocking_columns.specs.declared.stretches.TaskPlace.{TaskPlace}
use Rattle.blocking_columns.specs.Given.{AreLaidOut}
use Rattle.shared_requests.specs.Held.{AreSharedOut}
use Rattle.closer_mpcp.specs.Windows.{AreWaitWindows}

-- Are x and y tasks of the set?
pub record AreTwoTasks (set : SetDef) (x y : ℕ) : Type 0 where
  pub task : x < length set.tasks
  pub other : y < length set.tasks

-- Is x a task of the set, and r a resource?
pub record AreTaskAndResource (set : SetDef) (x r : ℕ) : Type 0 where
  pub task : x < length set.tasks
  pub resource : r < length set.resources

-- Is x a task of the set, r a resource, and q one too where it is named?
pub record AreTaskAndNamed (set : SetDef) (x : ℕ) (q : Option ResourceId) (r : ℕ) : Type 0 where
  pub task : x < length set.tasks
  pub resource : r < length set.resources
  pub named : IfSome q (λ (a : ResourceId). a.0 < length set.resources)

-- Is x a task of the set, and are q and r resources?
pub record AreTaskAndTwoResources (set : SetDef) (x q r : ℕ) : Type 0 where
  pub task : x < length set.tasks
  pub first : q < length set.resources
  pub second : r < length set.resources

-- Are x and y tasks of the set, and is r a resource?
pub record AreTwoTasksAndResource (set : SetDef) (x y r : ℕ) : Type 0 where
  pub task : x < length set.tasks
  pub other : y < length set.tasks
  pub resource : r < length set.resources

-- Is x a task of the set, and has each task a bound, at most its latest one?
pub record IsTaskAt (set : SetDef) (bounds : List ℕ) (x : ℕ) : Type 0 where
  pub task : x < length set.tasks
  pub within : AreWithinDeadlines set bounds

-- Is x a task of the set, and r a resource, with such bounds?
pub record IsRequestAt (set : SetDef) (bounds : List ℕ) (x r : ℕ) : Type 0 where
  pub task : x < length set.tasks
  pub resource : r < length set.resources
  pub within : AreWithinDeadlines set bounds

-- Are the bounds such, both the earlier ones in r and those now?
pub record AreTwoBounds (set : SetDef) (r bounds : List ℕ) : Type 0 where
  pub earlier : AreWithinDeadlines set r
  pub within : AreWithinDeadlines set bounds

-- Is x a task of the set, with such bounds?
pub record IsTaskAtTwoBounds (set : SetDef) (r bounds : List ℕ) (x : ℕ) : Type 0 where
  pub task : x < length set.tasks
  pub both : AreTwoBounds set r bounds

-- Is what happens in a span counted with such bounds, where it is at most the longest deadline of any set?
pub record AreInSpan (set : SetDef) (bounds : List ℕ) (ticks : ℕ) : Type 0 where
  pub within : AreWithinDeadlines set bounds
  pub span : ticks ≤ 1000000000

-- Are jobs of x counted with such bounds, in a span that is at most the longest deadline of any set?
pub record AreJobsIn (set : SetDef) (bounds : List ℕ) (ticks x : ℕ) : Type 0 where
  pub task : x < length set.tasks
  pub within : AreWithinDeadlines set bounds
  pub span : ticks ≤ 1000000000

-- Are requests of r by x counted so?
pub record AreRequestsIn (set : SetDef) (bounds : List ℕ) (ticks x r : ℕ) : Type 0 where
  pub task : x < length set.tasks
  pub resource : r < length set.resources
  pub within : AreWithinDeadlines set bounds
  pub span : ticks ≤ 1000000000

-- Does i wait with such bounds, for each resource that it requests within its window in w?
pub record AreWaitsAt (set : SetDef) (bounds : List ℕ) (i : ℕ) (w : List (Option ℕ)) : Type 0 where
  pub task : i < length set.tasks
  pub within : AreWithinDeadlines set bounds
  pub windows : AreWaitWindows set (slice_index bounds) i w

-- Does it, and are x a task of the set and r a resource?
pub record AreWaitsAndRequest (set : SetDef) (bounds : List ℕ) (i : ℕ) (w : List (Option ℕ)) (x r : ℕ) : Type 0 where
  pub waits : AreWaitsAt set bounds i w
  pub other : x < length set.tasks
  pub resource : r < length set.resources

-- Does i wait so, and does s say of each resource whether it is shared out?
pub record AreSharedWaitsAt (set : SetDef) (bounds : List ℕ) (i : ℕ) (s : List Bool) (w : List (Option ℕ)) : Type 0 where
  pub waits : AreWaitsAt set bounds i w
  pub shared : AreSharedOut set i s

-- Do the columns stand so that those of each task begin where the entries say, and has each resource that i requests its window in w?
pub record AreLaidOutWithWindows (set : SetDef) (bounds : List ℕ) (i : ℕ) (columns : List Fragment) (entries : List TaskPlace)
    (w : List (Option ℕ)) : Type 0 where
  pub laid : AreLaidOut set bounds i columns entries
  pub windows : AreWaitWindows set (slice_index bounds) i w
