-- What the functions here are given: a task and a resource of the set, counts that are made before others, and columns with their places.
use Rattle.std.specs.Prelude.{◌≡◌, ℕ, ◌<◌, ◌≤◌, true, List, length}
use Rattle.sporadic_model.specs.SetDef.{SetDef}
use Rattle.sporadic_model.specs.Homes.{home_in, EachHasHome}
use Rattle.sporadic_model.specs.Users.{is_user}
use Rattle.blocking_columns.specs.declared.columns.Fragment.{Fragment}
use Rattle.blocking_columns.specs.declared.stretches.TaskPlace.{TaskPlace}
use Rattle.blocking_columns.specs.Given.{AreLaidOut}
use Rattle.request_windows.specs.Times.{AreTimes, own_and_lower}

-- Is x a task of the set, and q a resource?
pub record AreTaskAndResource (set : SetDef) (x q : ℕ) : Type 0 where
  pub task : x < length set.tasks
  pub resource : q < length set.resources

-- Is q a resource that i requests?
pub record IsRequested (set : SetDef) (i q : ℕ) : Type 0 where
  pub own : q < length set.resources
  pub user : is_user set q i ≡ true

-- Is x a task of the set, the span w at most the longest deadline of any set, and n a number of ticks that the requests of a job may take?
pub record AreSpanAndTime (set : SetDef) (x w n : ℕ) : Type 0 where
  pub task : x < length set.tasks
  pub span : w ≤ 1000000000
  pub time : n ≤ 32000000000000

-- Is this what doesn't depend on the span: how long a request of q by i and a lower one last, and the times of the higher tasks at q's home?
pub record IsCountedBefore (set : SetDef) (i q n : ℕ) (table : List ℕ) : Type 0 where
  pub own : n ≡ own_and_lower set i q
  pub times : AreTimes set i (home_in set q) table

-- Do the columns stand so that those of each task begin where the entries say, and has each resource a home?
pub record AreServedAndLaidOut (set : SetDef) (bounds : List ℕ) (i : ℕ) (columns : List Fragment) (entries : List TaskPlace) : Type 0 where
  pub suits : EachHasHome set
  pub laid : AreLaidOut set bounds i columns entries
