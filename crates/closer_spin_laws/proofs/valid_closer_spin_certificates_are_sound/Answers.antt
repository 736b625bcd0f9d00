use Rattle.closer_spin_laws.proofs.Sound.{spin_closer_sound}
use Rattle.closer_spin_laws.proofs.valid_closer_spin_certificates_are_sound.Goals as goal

pub returns : goal.returns
returns c = spin_closer_sound
