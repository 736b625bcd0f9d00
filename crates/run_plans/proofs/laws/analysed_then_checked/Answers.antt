use Rattle.run_plans.proofs.CheckedLaws.{finds_valid}
use Rattle.run_plans.proofs.laws.analysed_then_checked.Goals as goal

pub returns : goal.returns
returns c = finds_valid
