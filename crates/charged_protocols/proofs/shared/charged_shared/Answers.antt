use Rattle.std.proofs.Common.{◌∙◌, sym, ap}
use Rattle.phase_machine.specs.MachineDef.{under}
use Rattle.charge_laws.proofs.SharedCharging.{shared_uncharged}
use Rattle.charged_protocols.specs.ChargeNow.{shared_charge_now}
use Rattle.charged_protocols.proofs.SharedNow.{shared_shown}
use Rattle.charged_protocols.proofs.shared.charged_shared.Goals as goal

pub returns-then-blocked_shared-clause-value : goal.returns-then-blocked_shared-clause-value
returns-then-blocked_shared-clause-value c = λ rows shows e run.
    c.charge_of_blocked.ensures.value ∙ ap (λ row. shared_charge_now c.args.machine.now row c.args.j.0) (sym e)
    ∙ shared_shown c.args.machine.now rows c.args.j.0 shows c.requires.listed run
    (sym (c.blocked_shared.ensures rows shows e run) ∙ c.if-blocked_shared.true)

pub returns-clause-value : goal.returns-clause-value
returns-clause-value c = λ rows shows e run.
    sym (shared_uncharged (under c.args.machine.now rows) c.args.machine.now.tick c.args.j.0
    (sym (c.blocked_shared.ensures rows shows e run) ∙ c.if-blocked_shared.false))
