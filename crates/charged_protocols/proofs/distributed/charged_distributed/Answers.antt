use Rattle.std.proofs.Common.{◌∙◌, sym, ap}
use Rattle.phase_machine.specs.MachineDef.{under}
use Rattle.charge_laws.proofs.DpcpCharging.{dpcp_uncharged}
use Rattle.charged_protocols.specs.ChargeNow.{dpcp_charge_now}
use Rattle.charged_protocols.proofs.DistributedNow.{distributed_shown}
use Rattle.charged_protocols.proofs.distributed.charged_distributed.Goals as goal

pub returns-then-blocked-clause-value : goal.returns-then-blocked-clause-value
returns-then-blocked-clause-value c = λ rows shows e run.
    c.charge_of_blocked.ensures.value ∙ ap (λ row. dpcp_charge_now c.args.machine.now row c.args.j.0) (sym e)
    ∙ distributed_shown c.args.machine.now rows c.args.j.0 shows c.requires.listed run
    (sym (c.blocked.ensures rows shows e run) ∙ c.if-blocked.true)

pub returns-clause-value : goal.returns-clause-value
returns-clause-value c = λ rows shows e run.
    sym (dpcp_uncharged (under c.args.machine.now rows) c.args.machine.now.tick c.args.j.0
    (sym (c.blocked.ensures rows shows e run) ∙ c.if-blocked.false))
