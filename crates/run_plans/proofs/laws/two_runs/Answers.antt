use Rattle.run_plans.proofs.TwiceLaws.{first_complete, second_complete}
use Rattle.run_plans.proofs.laws.two_runs.Goals as goal

pub returns-clause-first : goal.returns-clause-first
returns-clause-first c = first_complete

pub returns-clause-second : goal.returns-clause-second
returns-clause-second c = second_complete
