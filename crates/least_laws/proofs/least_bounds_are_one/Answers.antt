use Rattle.least_laws.proofs.LeastLaws.{least_are_one}
use Rattle.least_laws.proofs.least_bounds_are_one.Goals as goal

pub returns : goal.returns
returns c = least_are_one
