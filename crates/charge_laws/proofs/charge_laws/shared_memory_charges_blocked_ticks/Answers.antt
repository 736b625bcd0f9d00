use Rattle.charge_laws.proofs.SharedCharging.{SharedCharged, shared_charged, shared_executes, shared_charge_blocked}
use Rattle.charge_laws.proofs.charge_laws.shared_memory_charges_blocked_ticks.Goals as goal

pub returns-clause-charged : goal.returns-clause-charged
returns-clause-charged c = λ o w t j keeps blocked. let s : SharedCharged o w t j = shared_charged o w t j keeps blocked in
    (s.charge, s.is_it, shared_executes o w t j s.charge keeps s.is_it)

pub returns-clause-only : goal.returns-clause-only
returns-clause-only c = shared_charge_blocked
