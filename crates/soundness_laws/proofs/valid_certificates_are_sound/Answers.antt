use Rattle.soundness_laws.proofs.ProtocolSoundness.{mpcp_sound, fmlp_sound, dpcp_sound}
use Rattle.soundness_laws.proofs.valid_certificates_are_sound.Goals as goal

pub returns-clause-mpcp : goal.returns-clause-mpcp
returns-clause-mpcp c = mpcp_sound

pub returns-clause-fmlp_plus : goal.returns-clause-fmlp_plus
returns-clause-fmlp_plus c = fmlp_sound

pub returns-clause-dpcp : goal.returns-clause-dpcp
returns-clause-dpcp c = dpcp_sound
