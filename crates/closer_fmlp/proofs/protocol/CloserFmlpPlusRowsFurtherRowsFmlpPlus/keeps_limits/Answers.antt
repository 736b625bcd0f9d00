use Rattle.closer_laws.proofs.Programs.{fmlp_closer_follows}
use Rattle.closer_fmlp.proofs.protocol.CloserFmlpPlusRowsFurtherRowsFmlpPlus.keeps_limits.Goals as goal

pub returns : goal.returns
returns c = λ yes. fmlp_closer_follows c.args.set.now c.args.i.0 c.args.earlier.now c.args.bounds.now c.requires.task
    (c.keeps_jobs.ensures.jobs.0 yes)
