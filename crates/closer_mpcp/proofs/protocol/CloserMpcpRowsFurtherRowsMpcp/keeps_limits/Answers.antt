use Rattle.mpcp_window_laws.proofs.Programs.{mpcp_closer_follows}
use Rattle.closer_mpcp.proofs.protocol.CloserMpcpRowsFurtherRowsMpcp.keeps_limits.Goals as goal

pub returns : goal.returns
returns c = λ yes. mpcp_closer_follows c.args.set.now c.args.i.0 c.args.earlier.now c.args.bounds.now c.requires.task
    (c.keeps_jobs.ensures.jobs.0 c.if-not-keeps_jobs.false) (c.keeps_windows.ensures yes)
