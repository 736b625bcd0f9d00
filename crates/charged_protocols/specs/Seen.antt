-- What a contract sees of a charge.
use Rattle.std.specs.Prelude.{option_map, Option}
use Rattle.schedule_model.specs.declared.job.JobId.{JobId}
use Rattle.blocking_columns.specs.declared.columns.Class.{Class}
use Rattle.charge_laws.specs.Charges.{Charge}

abbrev pub charge_seen : Option (JobId × Class) → Option Charge
charge_seen named = option_map (λ c. record { job = c.0.0; class = c.1 }) named
