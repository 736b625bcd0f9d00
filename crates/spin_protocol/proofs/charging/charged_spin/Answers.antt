use Rattle.std.proofs.Common.{rules, ◌∙◌, sym, ap}
use Rattle.phase_machine.specs.MachineDef.{under}
use Rattle.spin_charging.proofs.SpinCharging.{spin_uncharged}
use Rattle.spin_protocol.specs.SpinChargeNow.{beside_charge_now}
use Rattle.spin_protocol.proofs.SpinNow.{spin_shown}
use Rattle.spin_protocol.proofs.charging.charged_spin.Goals as goal

pub returns-then-blocked_shared : goal.returns-then-blocked_shared
returns-then-blocked_shared c = record {
  value = λ rows shows e run.
      c.charge_beside.ensures.value ∙ ap (λ row. beside_charge_now c.args.tick.now.machine.now row c.args.j.0) (sym e)
      ∙ spin_shown c.args.tick.now.machine.now rows c.args.j.0 shows
      (sym (c.blocked_shared.ensures rows shows e run) ∙ c.if-blocked_shared.true);
  listed = c.charge_beside.ensures.listed;
}

pub returns : goal.returns
returns c = record {
  value = λ rows shows e run.
      sym (spin_uncharged (under c.args.tick.now.machine.now rows) c.args.tick.now.machine.now.tick c.args.j.0
      (sym (c.blocked_shared.ensures rows shows e run) ∙ c.if-blocked_shared.false));
  listed = search rules;
}
