use Rattle.run_plans.proofs.CloserGain.{raises_no_bound, stays_shown}
use Rattle.run_plans.proofs.laws.closer_analyses_lose_nothing.Goals as goal

pub returns-clause-bounds : goal.returns-clause-bounds
returns-clause-bounds c = raises_no_bound

pub returns-clause-shown : goal.returns-clause-shown
returns-clause-shown c = stays_shown
