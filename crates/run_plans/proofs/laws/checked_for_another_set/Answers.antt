use Rattle.run_plans.proofs.CheckedLaws.{finds_other_set}
use Rattle.run_plans.proofs.laws.checked_for_another_set.Goals as goal

pub returns : goal.returns
returns c = finds_other_set
