use Rattle.schedule_model.specs.RowDef.{Trace}
use Rattle.schedule_model.specs.declared.rule.Rule.TheVariants as rule
use Rattle.phase_machine.specs.MachineDef.{under}
use Rattle.charged_protocols.proofs.Uncharged.{none_where_free}
use Rattle.spin_charging.proofs.SpinCharging.{SpinCharged, spin_charged, spin_charge_blocked}
use Rattle.spin_protocol.proofs.instances.SpinChargedProtocol.charged.Goals as goal

pub returns-clause-value : goal.returns-clause-value
returns-clause-value c = λ rows shows e keeps. c.charged_spin.ensures.value rows shows e (keeps rule.Run)

pub returns-clause-none : goal.returns-clause-none
returns-clause-none c = λ rows shows e keeps.
    let w : Trace = under c.args.machine.now rows in
    none_where_free _ _ _ (c.charged_spin.ensures.value rows shows e (keeps rule.Run))
    (λ blocked. let s : SpinCharged w c.args.machine.now.tick c.args.j.0 =
    spin_charged w c.args.machine.now.tick c.args.j.0 shows.machine.lawful keeps blocked in (s.charge, s.is_it))
    (spin_charge_blocked w c.args.machine.now.tick c.args.j.0)
