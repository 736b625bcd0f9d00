-- What the functions here are given: a machine of a set in which each resource has a home, a row that fits it, and jobs of its list.
use Rattle.std.specs.Prelude.{◌≡◌, ℕ, ◌<◌, List, length, Option}
use Rattle.sporadic_model.specs.Homes.{EachHasHome}
use Rattle.schedule_model.specs.RowDef.{RowDef}
use Rattle.schedule_model.specs.declared.job.JobId.{JobId}
use Rattle.phase_machine.specs.MachineDef.{MachineDef}
use Rattle.phase_machine.specs.Taking.{IsRowFor}

-- Has each resource a home, and is j a job?
pub record IsJobServed (m : MachineDef) (j : ℕ) : Type 0 where
  pub suits : EachHasHome m.list.set
  pub listed : j < length m.list.jobs

-- Has each resource a home, and does the row fit?
pub record IsRowServed (m : MachineDef) (row : RowDef) : Type 0 where
  pub suits : EachHasHome m.list.set
  pub fits : IsRowFor m.list row

-- Does it, and is j a job?
pub record AreRowAndJobServed (m : MachineDef) (row : RowDef) (j : ℕ) : Type 0 where
  pub suits : EachHasHome m.list.set
  pub fits : IsRowFor m.list row
  pub listed : j < length m.list.jobs

-- Has each resource a home, and one place among the holders?
pub record ArePlacesServed (m : MachineDef) (holders : List (Option JobId)) : Type 0 where
  pub suits : EachHasHome m.list.set
  pub len : length holders ≡ length m.list.set.resources
