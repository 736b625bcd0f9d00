use Rattle.spin_charging.proofs.SpinPrograms.{spin_follows}
use Rattle.spin_protocol.proofs.instances.SpinProgramSource.keeps_limits.Goals as goal

pub returns : goal.returns
returns c = λ yes. spin_follows c.args.set.now c.args.i.0 c.args.earlier.now c.args.bounds.now c.requires.task
    (c.keeps_jobs.ensures.jobs.0 yes)
