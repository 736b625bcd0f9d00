use Rattle.schedule_model.specs.declared.rule.Rule.TheVariants as rule
use Rattle.spin_protocol.proofs.instances.SpinJudge.blocked.Goals as goal

pub returns : goal.returns
returns c = λ rows shows e keeps. c.blocked_shared.ensures rows shows e (keeps rule.Run)
