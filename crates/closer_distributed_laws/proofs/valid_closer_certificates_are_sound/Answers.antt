use Rattle.closer_distributed_laws.proofs.Sound.{dpcp_closer_sound, dflp_closer_sound}
use Rattle.closer_distributed_laws.proofs.valid_closer_certificates_are_sound.Goals as goal

pub returns-clause-dpcp : goal.returns-clause-dpcp
returns-clause-dpcp c = dpcp_closer_sound

pub returns-clause-dflp : goal.returns-clause-dflp
returns-clause-dflp c = dflp_closer_sound
