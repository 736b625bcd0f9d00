-- What functions that add rows are given: columns and places that belong together, and marks of the resources that are shared out.
use Rattle.std.specs.Prelude.{ℕ, Bool, List}
use Rattle.sporadic_model.specs.SetDef.{SetDef}
use Rattle.blocking_columns.specs.declared.columns.Fragment.{Fragment}
use Rattle.blocking_columns.specs.declared.stretches.TaskPlace.{TaskPlace}
use Rattle.blocking_columns.specs.Given.{AreLaidOut}
use Rattle.shared_requests.specs.Held.{AreSharedOut}

-- Do the columns stand in order, so that those of each task begin where the entries say? And does s say of each resource whether it is shared
-- out?
pub record AreSharedLaidOut (set : SetDef) (bounds : List ℕ) (i : ℕ) (s : List Bool) (columns : List Fragment) (entries : List TaskPlace)
    : Type 0 where
  pub laid : AreLaidOut set bounds i columns entries
  pub shared : AreSharedOut set i s
