use Rattle.std.proofs.Common.{◌∙◌, ap, sym}
use Rattle.dpcp_rules.specs.Blocked.{blocked_now}
use Rattle.dpcp_rules.proofs.Blocked.{blocked_shown}
use Rattle.dpcp_rules.proofs.blocking.blocked.Goals as goal

pub returns : goal.returns
returns c = λ rows shows e run. c.is_blocked.ensures ∙ ap (λ row. blocked_now c.args.machine.now row c.args.j.0) (sym e)
    ∙ blocked_shown c.args.machine.now rows c.args.j.0 shows run
