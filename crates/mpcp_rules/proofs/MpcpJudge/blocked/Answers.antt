use Rattle.schedule_model.specs.declared.rule.Rule.TheVariants as rule
use Rattle.mpcp_rules.proofs.MpcpJudge.blocked.Goals as goal

pub returns : goal.returns
returns c = λ rows shows e keeps. c.blocked_shared.ensures rows shows e (keeps rule.Run)
