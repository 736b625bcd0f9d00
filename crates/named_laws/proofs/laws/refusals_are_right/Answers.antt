use Rattle.named_laws.proofs.Refusals.{named_none_fits, named_none_valid}
use Rattle.named_laws.proofs.laws.refusals_are_right.Goals as goal

pub returns-clause-none_fits : goal.returns-clause-none_fits
returns-clause-none_fits c = named_none_fits

pub returns-clause-none_valid : goal.returns-clause-none_valid
returns-clause-none_valid c = named_none_valid
