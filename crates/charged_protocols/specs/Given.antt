-- What the functions of a charge are given, and what they say of it.
use Rattle.std.specs.Prelude.{◌≡◌, ℕ, ◌<◌, length, Option, IfSome}
use Rattle.sporadic_model.specs.Homes.{EachHasHome}
use Rattle.schedule_model.specs.JobDef.{JobsDef}
use Rattle.schedule_model.specs.RowDef.{RowDef}
use Rattle.schedule_model.specs.declared.job.JobId.{JobId}
use Rattle.phase_machine.specs.MachineDef.{MachineDef}
use Rattle.phase_machine.specs.Taking.{IsRowFor}
use Rattle.blocking_columns.specs.declared.columns.Class.{Class}
use Rattle.charge_laws.specs.Charges.{Charge}
use Rattle.charged_protocols.specs.Seen.{charge_seen}

-- Is the row one for the listed jobs, and is j one of these?
pub record AreRowAndJob (list : JobsDef) (row : RowDef) (j : ℕ) : Type 0 where
  pub fits : IsRowFor list row
  pub listed : j < length list.jobs

-- Is the row such, and q a resource, where each resource has a home?
pub record AreRowAndHomes (list : JobsDef) (row : RowDef) (q : ℕ) : Type 0 where
  pub suits : EachHasHome list.set
  pub fits : IsRowFor list row
  pub resource : q < length list.set.resources

-- Is this the charge, to a listed job if there is one?
pub record IsChargeNow (m : MachineDef) (charge : Option Charge) (named : Option (JobId × Class)) : Type 0 where
  pub value : charge_seen named ≡ charge
  pub listed : IfSome named (λ c. c.0.0 < length m.list.jobs)
