use Rattle.named_laws.proofs.CloserNames.{named_closer_fits}
use Rattle.named_laws.proofs.laws.closer_analyses_raise_no_bound.Goals as goal

pub returns : goal.returns
returns c = named_closer_fits
