use Rattle.dflp_laws.proofs.Programs.{dflp_rises}
use Rattle.dflp_laws.proofs.limits_rise_with_bounds.Goals as goal

pub returns : goal.returns
returns c = dflp_rises
