use Rattle.named_laws.proofs.EachName.{named_on_clocks}
use Rattle.named_laws.proofs.laws.programs_are_sound_on_clocks.Goals as goal

pub returns : goal.returns
returns c = named_on_clocks
