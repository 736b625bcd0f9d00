-- To what each of the three protocols charges a tick, by its name.
use Rattle.std.specs.Prelude.{ℕ, Option}
use Rattle.sporadic_model.specs.declared.ids.Protocol.{Protocol}
use Rattle.sporadic_model.specs.declared.ids.Protocol.TheVariants as protocol
use Rattle.schedule_model.specs.RowDef.{Trace}
use Rattle.charge_laws.specs.Charges.{Charge, shared_charge, dpcp_charge}

abbrev pub charges_of : Protocol → Trace → ℕ → ℕ → Option Charge
charges_of protocol.Mpcp = shared_charge
charges_of protocol.FmlpPlus = shared_charge
charges_of protocol.Dpcp = dpcp_charge
