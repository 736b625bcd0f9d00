use Rattle.window_laws.proofs.Sound.{windows_sound}
use Rattle.window_laws.proofs.valid_certificates_with_windows_are_sound.Goals as goal

pub returns : goal.returns
returns c = windows_sound
