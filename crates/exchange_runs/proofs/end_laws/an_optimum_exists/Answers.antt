use Rattle.exchange_runs.proofs.FreeEnds.{optimum_exists, optimal_dual_exists}
use Rattle.exchange_runs.proofs.end_laws.an_optimum_exists.Goals as goal

pub returns-clause-optimum : goal.returns-clause-optimum
returns-clause-optimum c = optimum_exists

pub returns-clause-dual : goal.returns-clause-dual
returns-clause-dual c = optimal_dual_exists
