use Rattle.program_sources.proofs.RecurrenceLaws.{cost_below_fitting}
use Rattle.program_sources.proofs.laws.fitting_bounds_are_from_the_costs.Goals as goal

pub returns : goal.returns
returns c = cost_below_fitting
