use Rattle.least_laws.proofs.LeastLaws.{costs_below}
use Rattle.least_laws.proofs.costs_are_below_all_fitting.Goals as goal

pub returns : goal.returns
returns c = costs_below
