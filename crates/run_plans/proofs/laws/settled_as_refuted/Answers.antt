use Rattle.run_plans.proofs.SameAnswers.{finds_same_refusal}
use Rattle.run_plans.proofs.laws.settled_as_refuted.Goals as goal

pub returns : goal.returns
returns c = finds_same_refusal
