use Rattle.run_plans.proofs.OneOutcome.{others_have_one}
use Rattle.run_plans.proofs.laws.other_words_have_one_outcome.Goals as goal

pub returns : goal.returns
returns c = others_have_one
