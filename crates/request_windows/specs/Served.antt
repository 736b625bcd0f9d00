-- For which tasks there are windows.
use Rattle.std.specs.Prelude.{ℕ, ◌<◌, List, length}
use Rattle.sporadic_model.specs.SetDef.{SetDef}
use Rattle.sporadic_model.specs.Homes.{EachHasHome}
use Rattle.sporadic_model.specs.Bounds.{AreWithinDeadlines}

-- Is i a task of the set, does each resource have a home, and are the bounds within the deadlines?
pub record IsServed (set : SetDef) (i : ℕ) (bounds : List ℕ) : Type 0 where
  pub task : i < length set.tasks
  pub suits : EachHasHome set
  pub within : AreWithinDeadlines set bounds
