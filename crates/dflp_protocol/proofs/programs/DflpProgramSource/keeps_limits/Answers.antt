use Rattle.dflp_laws.proofs.Programs.{dflp_follows}
use Rattle.dflp_protocol.proofs.programs.DflpProgramSource.keeps_limits.Goals as goal

pub returns : goal.returns
returns c = λ yes. dflp_follows c.args.set.now c.args.i.0 c.args.earlier.now c.args.bounds.now (c.keeps_jobs.ensures.jobs.0 yes)
