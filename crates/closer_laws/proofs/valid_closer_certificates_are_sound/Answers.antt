use Rattle.closer_laws.proofs.Sound.{fmlp_closer_sound}
use Rattle.closer_laws.proofs.valid_closer_certificates_are_sound.Goals as goal

pub returns : goal.returns
returns c = fmlp_closer_sound
