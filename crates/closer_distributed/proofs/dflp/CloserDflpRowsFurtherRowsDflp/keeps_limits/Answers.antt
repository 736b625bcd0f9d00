use Rattle.closer_distributed_laws.proofs.Programs.{dflp_closer_follows}
use Rattle.closer_distributed.proofs.dflp.CloserDflpRowsFurtherRowsDflp.keeps_limits.Goals as goal

pub returns : goal.returns
returns c = λ yes. dflp_closer_follows c.args.set.now c.args.i.0 c.args.earlier.now c.args.bounds.now (c.keeps_jobs.ensures.jobs.0 yes)
