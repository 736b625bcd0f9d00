use Rattle.sim_engine.proofs.OneSchedule.{simulated_once}
use Rattle.sim_engine.proofs.by_protocol.simulations_are_unique.Goals as goal

pub returns : goal.returns
returns c = simulated_once
