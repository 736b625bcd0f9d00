use Rattle.clock_laws.proofs.Roundings.{rounded_is_rounding}
use Rattle.clock_laws.proofs.sets_are_rounded.Goals as goal

pub returns : goal.returns
returns c = rounded_is_rounding
