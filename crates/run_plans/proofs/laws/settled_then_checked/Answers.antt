use Rattle.run_plans.proofs.CheckedLaws.{finds_settled}
use Rattle.run_plans.proofs.laws.settled_then_checked.Goals as goal

pub returns : goal.returns
returns c = finds_settled
