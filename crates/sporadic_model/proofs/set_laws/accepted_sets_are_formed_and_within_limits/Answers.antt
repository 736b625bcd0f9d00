use Rattle.sporadic_model.proofs.Laws.{formed_of_accepted, limits_of_accepted, accepted_of_formed}
use Rattle.sporadic_model.proofs.set_laws.accepted_sets_are_formed_and_within_limits.Goals as goal

pub returns : goal.returns
returns c = λ set. (λ h. (formed_of_accepted set h, limits_of_accepted set h), λ both. accepted_of_formed set both.0 both.1)
