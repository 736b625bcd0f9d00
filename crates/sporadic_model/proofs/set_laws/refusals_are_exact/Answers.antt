use Rattle.sporadic_model.proofs.Ranges.{accepted_from_free}
use Rattle.sporadic_model.proofs.Acceptance.{free_from_accepted}
use Rattle.sporadic_model.proofs.set_laws.refusals_are_exact.Goals as goal

pub returns : goal.returns
returns c = λ set. (accepted_from_free set, free_from_accepted set)
