use Rattle.run_plans.proofs.CheckedLaws.{finds_upgraded}
use Rattle.run_plans.proofs.laws.upgraded_then_checked.Goals as goal

pub returns : goal.returns
returns c = finds_upgraded
