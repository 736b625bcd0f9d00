use Rattle.charge_laws.proofs.DpcpCharging.{DpcpCharged, dpcp_charged, dpcp_executes, dpcp_charge_blocked}
use Rattle.charge_laws.proofs.charge_laws.dpcp_charges_blocked_ticks.Goals as goal

pub returns-clause-charged : goal.returns-clause-charged
returns-clause-charged c = λ w t j keeps blocked. let s : DpcpCharged w t j = dpcp_charged w t j keeps blocked in
    (s.charge, s.is_it, dpcp_executes w t j s.charge keeps s.is_it)

pub returns-clause-only : goal.returns-clause-only
returns-clause-only c = dpcp_charge_blocked
