use Rattle.named_laws.proofs.OneSchedule.{named_simulated_once}
use Rattle.named_laws.proofs.laws.schedules_are_unique.Goals as goal

pub returns : goal.returns
returns c = named_simulated_once
