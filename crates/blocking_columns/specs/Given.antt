-- What functions are given: tasks and a resource of the set, and the task that is analysed, i, with bounds, columns and places that belong
-- together.
use Rattle.std.specs.Prelude.{◌≡◌, ℕ, ◌<◌, true, List, map, length, slice_index}
use Rattle.sporadic_model.specs.SetDef.{SetDef}
use Rattle.sporadic_model.specs.Users.{is_user}
use Rattle.sporadic_model.specs.declared.ids.Protocol.{Protocol}
use Rattle.sporadic_model.specs.Bounds.{AreWithinDeadlines}
use Rattle.blocking_columns.specs.declared.columns.Fragment.{Fragment}
use Rattle.blocking_columns.specs.declared.stretches.TaskPlace.{TaskPlace}
use Rattle.blocking_columns.specs.ColumnDef.{column_seen, AreKnown}
use Rattle.blocking_columns.specs.Columns.{columns_of}
use Rattle.blocking_columns.specs.Stretches.{AreInOrder}
use Rattle.blocking_columns.specs.TaskPlaces.{ArePlaces}

-- Are i and x tasks of the set?
pub record AreTwoTasks (set : SetDef) (i x : ℕ) : Type 0 where
  pub task : i < length set.tasks
  pub other : x < length set.tasks

-- Are they, where each task has a bound, at most its latest one?
pub record AreTwoTasksAt (set : SetDef) (bounds : List ℕ) (i x : ℕ) : Type 0 where
  pub task : i < length set.tasks
  pub other : x < length set.tasks
  pub within : AreWithinDeadlines set bounds

-- Is i a task of the set, and x one that uses its resource q?
pub record AreTaskAndUser (set : SetDef) (i x q : ℕ) : Type 0 where
  pub task : i < length set.tasks
  pub other : x < length set.tasks
  pub resource : q < length set.resources
  pub used : is_user set q x ≡ true

-- Is i a task of the set, where each task has a bound, at most its latest one, and are these its columns under the protocol?
pub record AreColumnsAt (protocol : Protocol) (set : SetDef) (bounds : List ℕ) (i : ℕ) (given : List Fragment) : Type 0 where
  pub task : i < length set.tasks
  pub within : AreWithinDeadlines set bounds
  pub columns : map column_seen given ≡ columns_of protocol set i

-- Is i such a task, with such bounds, and is each column one of a task and a resource of the set?
pub record AreKnownAt (set : SetDef) (bounds : List ℕ) (i : ℕ) (columns : List Fragment) : Type 0 where
  pub task : i < length set.tasks
  pub within : AreWithinDeadlines set bounds
  pub known : AreKnown (length set.tasks) (length set.resources) columns

-- Are they such columns, and do they stand in order?
pub record AreInOrderAt (set : SetDef) (bounds : List ℕ) (i : ℕ) (columns : List Fragment) : Type 0 where
  pub task : i < length set.tasks
  pub within : AreWithinDeadlines set bounds
  pub known : AreKnown (length set.tasks) (length set.resources) columns
  pub order : AreInOrder columns

-- Do they stand so that those of each task begin where the entries say?
pub record AreLaidOut (set : SetDef) (bounds : List ℕ) (i : ℕ) (columns : List Fragment) (entries : List TaskPlace) : Type 0 where
  pub task : i < length set.tasks
  pub within : AreWithinDeadlines set bounds
  pub known : AreKnown (length set.tasks) (length set.resources) columns
  pub order : AreInOrder columns
  pub places : ArePlaces set (slice_index bounds) i (length set.tasks) columns entries
