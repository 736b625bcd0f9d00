use Rattle.named_laws.proofs.EachName.{named_sound}
use Rattle.named_laws.proofs.laws.programs_are_sound.Goals as goal

pub returns : goal.returns
returns c = named_sound
