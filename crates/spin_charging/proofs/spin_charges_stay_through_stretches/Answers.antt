use Rattle.spin_charging.proofs.SpinStretches.{spin_stays_charged}
use Rattle.spin_charging.proofs.spin_charges_stay_through_stretches.Goals as goal

pub returns : goal.returns
returns c = spin_stays_charged
