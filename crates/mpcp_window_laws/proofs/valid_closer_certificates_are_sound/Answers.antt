use Rattle.mpcp_window_laws.proofs.Sound.{mpcp_closer_sound}
use Rattle.mpcp_window_laws.proofs.valid_closer_certificates_are_sound.Goals as goal

pub returns : goal.returns
returns c = mpcp_closer_sound
