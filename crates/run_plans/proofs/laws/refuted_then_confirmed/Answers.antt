use Rattle.run_plans.proofs.ConfirmedLaws.{finds_confirmed}
use Rattle.run_plans.proofs.laws.refuted_then_confirmed.Goals as goal

pub returns : goal.returns
returns c = finds_confirmed
