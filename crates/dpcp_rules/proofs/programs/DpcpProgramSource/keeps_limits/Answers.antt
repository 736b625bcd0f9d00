use Rattle.sporadic_model.specs.declared.ids.Protocol.TheVariants as protocol
use Rattle.dpcp_rules.proofs.programs.DpcpProgramSource.keeps_limits.Goals as goal

pub returns : goal.returns
returns c = c.keeps_jobs.ensures.limits protocol.Dpcp
