use Rattle.schedule_model.specs.declared.rule.Rule.TheVariants as rule
use Rattle.dflp_protocol.proofs.DflpJudge.blocked.Goals as goal

pub returns : goal.returns
returns c = λ rows shows e keeps. c.blocked.ensures rows shows e (keeps rule.Run)
