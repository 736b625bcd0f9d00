use Rattle.spin_charging.proofs.SpinCharging.{spin_charge_blocked}
use Rattle.spin_charging.proofs.SpinPlacement.{spin_charges_blocked}
use Rattle.spin_charging.proofs.spin_locks_charge_blocked_ticks.Goals as goal

pub returns-clause-charged : goal.returns-clause-charged
returns-clause-charged c = spin_charges_blocked

pub returns-clause-only : goal.returns-clause-only
returns-clause-only c = spin_charge_blocked
