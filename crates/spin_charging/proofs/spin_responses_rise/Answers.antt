use Rattle.spin_charging.proofs.SpinSoundness.{spin_above}
use Rattle.spin_charging.proofs.spin_responses_rise.Goals as goal

pub returns : goal.returns
returns c = spin_above
