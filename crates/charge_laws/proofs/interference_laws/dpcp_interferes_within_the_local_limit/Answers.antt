use Rattle.charge_laws.proofs.Interference.{interferes_within_local}
use Rattle.charge_laws.proofs.interference_laws.dpcp_interferes_within_the_local_limit.Goals as goal

pub returns : goal.returns
returns c = interferes_within_local
