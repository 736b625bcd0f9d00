use Rattle.dflp_laws.proofs.Placement.{dflp_is_charged}
use Rattle.dflp_laws.proofs.blocked_ticks_are_charged.Goals as goal

pub returns : goal.returns
returns c = dflp_is_charged
