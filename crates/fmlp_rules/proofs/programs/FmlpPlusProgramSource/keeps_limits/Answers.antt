use Rattle.sporadic_model.specs.declared.ids.Protocol.TheVariants as protocol
use Rattle.fmlp_rules.proofs.programs.FmlpPlusProgramSource.keeps_limits.Goals as goal

pub returns : goal.returns
returns c = c.keeps_jobs.ensures.limits protocol.FmlpPlus
