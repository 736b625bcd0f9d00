use Rattle.spin_charging.proofs.SpinSoundness.{spin_sound}
use Rattle.spin_charging.proofs.valid_spin_certificates_are_sound.Goals as goal

pub returns : goal.returns
returns c = spin_sound
