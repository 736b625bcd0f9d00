use Rattle.response_fixpoint.proofs.RunLaws.{one_ending}
use Rattle.response_fixpoint.proofs.laws.the_rounds_have_one_ending.Goals as goal

pub returns : goal.returns
returns c = one_ending
