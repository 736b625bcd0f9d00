use Rattle.run_plans.proofs.ConfirmedLaws.{finds_settled}
use Rattle.run_plans.proofs.laws.settled_then_confirmed.Goals as goal

pub returns : goal.returns
returns c = finds_settled
