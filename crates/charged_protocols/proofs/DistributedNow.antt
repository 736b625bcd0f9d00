-- Under DPCP: the charge by a machine's value is that of each schedule that it shows.
use Rattle.std.proofs.Common.{◌≡◌, ℕ, ◌<◌, true, length, refl, ap, Option, Some, None}
use Rattle.std.specs.Prelude.{option_map}
use Rattle.schedule_model.specs.RowDef.{RowDef, running_on}
use Rattle.schedule_model.specs.Phase.{Phase, phase_of}
use Rattle.schedule_model.specs.Phase.Phase.{Local, Asking, Finished}
use Rattle.schedule_model.specs.DpcpRules.{KeepsRun, home_of}
use Rattle.schedule_model.specs.BlockedTicks.{is_dpcp_interference, is_blocked}
use Rattle.schedule_laws.proofs.ActiveJobs.{active_listed}
use Rattle.phase_machine.specs.MachineDef.{MachineDef, under}
use Rattle.phase_machine.specs.Now.{phase_now}
use Rattle.phase_machine.specs.Shows.{Shows}
use Rattle.phase_machine.proofs.Facts.{phase_shown}
use Rattle.charge_laws.specs.Charges.{Charge, class_at_home, charge_by_phase, dpcp_charge}
use Rattle.charged_protocols.specs.ChargeNow.{dpcp_charge_in, dpcp_charge_now}

-- The charge to a job in this phase, on the home of resource q.
abbrev charge_in : ℕ → ℕ → Phase → Charge
charge_in q y p = record { job = y; class = class_at_home q p }

-- What runs on the home is in the phase that the machine tells.
runner_shown : (m : MachineDef) (rows : ℕ → RowDef) (k q : ℕ) (o : Option ℕ) → Shows m rows → KeepsRun (under m rows) m.tick
    → running_on (rows m.tick) k ≡ o
    → option_map (λ y. charge_in q y (phase_now m y)) o ≡ option_map (λ y. charge_in q y (phase_of (under m rows) m.tick y)) o
runner_shown m rows k q None shows run e = refl
runner_shown m rows k q (Some y) shows run e =
    ap (λ p. Some (charge_in q y p))
    (phase_shown m rows y shows (active_listed (under m rows) m.tick y (run.active k y e)))

phase_charge_shown : (m : MachineDef) (rows : ℕ → RowDef) (j : ℕ) (p : Phase) → Shows m rows → KeepsRun (under m rows) m.tick
    → dpcp_charge_in m (rows m.tick) j p ≡ charge_by_phase (under m rows) m.tick j p
phase_charge_shown m rows j Local shows run = refl
phase_charge_shown m rows j (Asking n q) shows run =
    runner_shown m rows (home_of (under m rows) q) q (running_on (rows m.tick) (home_of (under m rows) q)) shows run refl
phase_charge_shown m rows j Finished shows run = refl

-- The charge of a blocked job.
pub distributed_shown : (m : MachineDef) (rows : ℕ → RowDef) (j : ℕ) → Shows m rows → j < length m.list.jobs
    → KeepsRun (under m rows) m.tick → is_blocked is_dpcp_interference (under m rows) m.tick j ≡ true
    → dpcp_charge_now m (rows m.tick) j ≡ dpcp_charge (under m rows) m.tick j
unfolding dpcp_charge
distributed_shown m rows j shows l run blocked =
    let here : dpcp_charge_in m (rows m.tick) j (phase_of (under m rows) m.tick j)
    ≡ charge_by_phase (under m rows) m.tick j (phase_of (under m rows) m.tick j) =
    phase_charge_shown m rows j (phase_of (under m rows) m.tick j) shows run in
    rw (blocked, phase_shown m rows j shows l) here
