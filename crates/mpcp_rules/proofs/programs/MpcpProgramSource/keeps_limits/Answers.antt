use Rattle.sporadic_model.specs.declared.ids.Protocol.TheVariants as protocol
use Rattle.mpcp_rules.proofs.programs.MpcpProgramSource.keeps_limits.Goals as goal

pub returns : goal.returns
returns c = c.keeps_jobs.ensures.limits protocol.Mpcp
