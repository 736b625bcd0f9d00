use Rattle.dflp_laws.proofs.Programs.{dflp_follows}
use Rattle.dflp_laws.proofs.limits_follow_jobs.Goals as goal

pub returns : goal.returns
returns c = dflp_follows
