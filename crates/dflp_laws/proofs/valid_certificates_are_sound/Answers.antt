use Rattle.dflp_laws.proofs.Soundness.{dflp_sound}
use Rattle.dflp_laws.proofs.valid_certificates_are_sound.Goals as goal

pub returns : goal.returns
returns c = dflp_sound
