use Rattle.run_plans.proofs.ConfirmedLaws.{never_both}
use Rattle.run_plans.proofs.laws.never_accepted_and_refused.Goals as goal

pub returns : goal.returns
returns c = never_both
