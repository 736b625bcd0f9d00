use Rattle.named_laws.proofs.Refusals.{named_holds}
use Rattle.named_laws.proofs.laws.rounds_give_refusals_that_hold.Goals as goal

pub returns : goal.returns
returns c = named_holds
