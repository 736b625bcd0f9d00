-- What rows of single tasks and single requests, and the walks over them, are given. In each, i is the analysed task, and x is any task.
use Rattle.std.specs.Prelude.{◌≡◌, ℕ, ◌<◌, ◌≤◌, List, length, slice_index}
use Rattle.sporadic_model.specs.SetDef.{SetDef}
use Rattle.sporadic_model.specs.Bounds.{AreWithinDeadlines}
use Rattle.blocking_columns.specs.declared.columns.Fragment.{Fragment}
use Rattle.blocking_columns.specs.ColumnDef.{AreKnown}
use Rattle.blocking_columns.specs.Stretches.{slot, AreInOrder, BeginsAt, IsTaskStretch, IsRequestStretch}
use Rattle.blocking_columns.specs.Windows.{jobs_in}

-- Are i and x tasks of the set, and is this a column of x and a resource of the set?
pub record IsColumnOfTask (set : SetDef) (i x : ℕ) (column : Fragment) : Type 0 where
  pub task : i < length set.tasks
  pub other : x < length set.tasks
  pub of_task : column.task.0 ≡ x
  pub resource : column.resource.0 < length set.resources

-- Are i and x tasks of the set and q a resource, and is this a column of requests of q by x?
pub record IsColumnOfRequests (set : SetDef) (i x q : ℕ) (column : Fragment) : Type 0 where
  pub task : i < length set.tasks
  pub other : x < length set.tasks
  pub asked : q < length set.resources
  pub of_task : column.task.0 ≡ x
  pub of_resource : column.resource.0 ≡ q

-- Are i and x tasks of the set, where each task has a bound, at most its latest one? And can n jobs of x run within the bound of a job of i?
pub record AreJobsOf (set : SetDef) (bounds : List ℕ) (i x n : ℕ) : Type 0 where
  pub task : i < length set.tasks
  pub within : AreWithinDeadlines set bounds
  pub other : x < length set.tasks
  pub jobs : n ≡ jobs_in set (slice_index bounds) i x
  pub most : n ≤ 2000000000

-- Can n jobs of x run so, and are its columns among these those from the place a to below b?
pub record AreColumnsOfTask (set : SetDef) (bounds : List ℕ) (i x n : ℕ) (columns : List Fragment) (a b : ℕ) : Type 0 where
  pub counted : AreJobsOf set bounds i x n
  pub known : AreKnown (length set.tasks) (length set.resources) columns
  pub stretch : IsTaskStretch x columns a b

-- Can they, and are the columns of its requests of q those?
pub record AreColumnsOfRequests (set : SetDef) (bounds : List ℕ) (i x q n : ℕ) (columns : List Fragment) (a b : ℕ) : Type 0 where
  pub counted : AreJobsOf set bounds i x n
  pub resource : q < length set.resources
  pub known : AreKnown (length set.tasks) (length set.resources) columns
  pub stretch : IsRequestStretch x q columns a b

-- Can they, and do columns of the set stand in order, those of x and of later tasks from the place on?
pub record AreInOrderFrom (set : SetDef) (bounds : List ℕ) (i x n : ℕ) (columns : List Fragment) (place : ℕ) : Type 0 where
  pub counted : AreJobsOf set bounds i x n
  pub known : AreKnown (length set.tasks) (length set.resources) columns
  pub order : AreInOrder columns
  pub begins : BeginsAt (slot x 0) columns place
