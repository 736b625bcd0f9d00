use Rattle.closer_spin_laws.proofs.Programs.{spin_closer_follows}
use Rattle.closer_spin.proofs.protocol.CloserSpinRowsFurtherRowsSpin.keeps_limits.Goals as goal

pub returns : goal.returns
returns c = λ yes. spin_closer_follows c.args.set.now c.args.i.0 c.args.earlier.now c.args.bounds.now c.requires.task
    (c.keeps_jobs.ensures.jobs.0 yes)
