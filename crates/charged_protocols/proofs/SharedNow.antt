-- Where requests run on their own task's processor: the charge by a machine's value is that of each schedule that it shows.
use Rattle.std.proofs.Common.{◌≡◌, ℕ, ◌<◌, ◌||◌, true, length, refl, sym, ap, ◌∙◌, Option, Some, None}
use Rattle.std.specs.Option.{option_and_then}
use Rattle.schedule_model.specs.RowDef.{RowDef, Trace, holder_in}
use Rattle.schedule_model.specs.Phase.{Phase, is_local, phase_of}
use Rattle.schedule_model.specs.Phase.Phase.{Local, Asking, Finished}
use Rattle.schedule_model.specs.Activity.{is_active, is_active_local, is_ready_holder, is_ready, holds_by}
use Rattle.schedule_model.specs.SharedRules.{KeepsRun}
use Rattle.schedule_model.specs.BlockedTicks.{is_shared_interference, is_blocked}
use Rattle.schedule_laws.proofs.KindsOfTicks.{Blocked, blocked_is}
use Rattle.phase_machine.specs.MachineDef.{MachineDef, under}
use Rattle.phase_machine.specs.Shows.{Shows}
use Rattle.phase_machine.proofs.Facts.{phase_shown}
use Rattle.phase_machine.specs.Now.{may_run_now}
use Rattle.shared_rules.proofs.Blocked.{runs_here}
use Rattle.charge_laws.specs.Charges.{charge_by_holder, charge_of_waiting, shared_charge}
use Rattle.charged_protocols.specs.ChargeNow.{holder_charge_now, waiting_charge_in, shared_charge_now}

holder_shown : (m : MachineDef) (rows : ℕ → RowDef) (y : ℕ) → KeepsRun (under m rows) m.tick
    → holder_charge_now m (rows m.tick) y ≡ charge_by_holder (under m rows) m.tick y
holder_shown m rows y run = rw (runs_here (under m rows) m.tick y run) refl

same_after : {T U : Type 0} (f g : T → Option U) (o : Option T) → ((x : T) → f x ≡ g x) → option_and_then f o ≡ option_and_then g o
same_after f g (Some x) h = h x
same_after f g None h = refl

waiting_shown : (m : MachineDef) (rows : ℕ → RowDef) (p : Phase) → KeepsRun (under m rows) m.tick
    → waiting_charge_in m (rows m.tick) p ≡ charge_of_waiting (under m rows) m.tick p
waiting_shown m rows (Asking n q) run =
    same_after (holder_charge_now m (rows m.tick)) (charge_by_holder (under m rows) m.tick) (holder_in (rows m.tick) q)
    (λ y. holder_shown m rows y run)
waiting_shown m rows Local run = refl
waiting_shown m rows Finished run = refl

-- An active job is ready where it is Local or a holder.
active_ready : (w : Trace) (t j : ℕ) → is_active w t j ≡ true
    → is_ready w t j ≡ (is_local (phase_of w t j) || holds_by (holder_in (w.row t)) j (phase_of w t j))
unfolding is_ready is_active_local is_ready_holder
active_ready w t j active = rw active refl

ready_shown : (m : MachineDef) (rows : ℕ → RowDef) (j : ℕ) → Shows m rows → j < length m.list.jobs
    → is_active (under m rows) m.tick j ≡ true → may_run_now m (holder_in (rows m.tick)) j ≡ is_ready (under m rows) m.tick j
ready_shown m rows j shows l active =
    ap (λ p. is_local p || holds_by (holder_in (rows m.tick)) j p) (phase_shown m rows j shows l)
    ∙ sym (active_ready (under m rows) m.tick j active)

-- The charge of a blocked job.
pub shared_shown : (m : MachineDef) (rows : ℕ → RowDef) (j : ℕ) → Shows m rows → j < length m.list.jobs
    → KeepsRun (under m rows) m.tick → is_blocked is_shared_interference (under m rows) m.tick j ≡ true
    → shared_charge_now m (rows m.tick) j ≡ shared_charge (under m rows) m.tick j
unfolding shared_charge
shared_shown m rows j shows l run blocked =
    let b : Blocked is_shared_interference (under m rows) m.tick j = blocked_is is_shared_interference (under m rows) m.tick j blocked in
    rw (
      blocked,
      ready_shown m rows j shows l b.active,
      phase_shown m rows j shows l,
      waiting_shown m rows (phase_of (under m rows) m.tick j) run,
    ) refl
