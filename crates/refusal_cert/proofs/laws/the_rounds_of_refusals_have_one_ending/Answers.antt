use Rattle.refusal_cert.proofs.OneEnding.{refuting_once}
use Rattle.refusal_cert.proofs.laws.the_rounds_of_refusals_have_one_ending.Goals as goal

pub returns : goal.returns
returns c = refuting_once
