-- The charge by a machine's value is that of each schedule that it shows.
use Rattle.std.proofs.Common.{◌≡◌, ℕ, ◌<◌, ◌==◌, ◌&&◌, true, false, length, refl, sym, ap, ◌∙◌, Option, Some, None}
use Rattle.std.specs.Option.{option_and_then, option_map_or}
use Rattle.number_laws.specs.Tests.{found_below}
use Rattle.number_laws.proofs.TestLaws.{found_below-agree, found_below-is}
use Rattle.sporadic_model.specs.SetDef.{task_at}
use Rattle.schedule_model.specs.RowDef.{RowDef, running_on, holder_in}
use Rattle.schedule_model.specs.Phase.{Phase, phase_of}
use Rattle.schedule_model.specs.Phase.Phase.{Local, Asking, Finished}
use Rattle.schedule_model.specs.Activity.{processor_of, active_job_of}
use Rattle.schedule_model.specs.BlockedTicks.{is_shared_interference, is_blocked}
use Rattle.phase_machine.specs.MachineDef.{MachineDef, under}
use Rattle.phase_machine.specs.Now.{current_now}
use Rattle.phase_machine.specs.Shows.{Shows}
use Rattle.phase_machine.proofs.Facts.{phase_shown, current_shown, current_is}
use Rattle.spin_rules.proofs.InRequests.{spins_in_request, in_request_listed}
use Rattle.spin_charging.proofs.SpinCharging.{spinner_on_is}
use Rattle.spin_charging.specs.SpinCharges.{is_spinning_task, spinner_on, charge_by_spinner, charge_beside, spin_charge}
use Rattle.spin_rules.specs.SpinRules.{spins}
use Rattle.spin_protocol.specs.SpinTests.{spins_now}
use Rattle.spin_protocol.specs.SpinChargeNow.{current_spins, is_spinning_task_now, spinner_now, charge_in, spinner_charge_now}
use Rattle.spin_protocol.specs.SpinChargeNow.{spinning_charge_now, charge_with, beside_charge_now}
use Rattle.spin_protocol.proofs.SpinVerdict.{spins_shown}

current_shows : (m : MachineDef) (rows : ℕ → RowDef) (x : ℕ) → Shows m rows → x < length m.list.set.tasks
    → current_spins m (rows m.tick) x ≡ option_map_or (spins (under m rows) m.tick) (active_job_of (under m rows) m.tick x) false
current_shows m rows x shows l = go (current_now m x) refl ∙ ap (λ o. option_map_or (spins (under m rows) m.tick) o false) (current_is m rows x shows l) where
  go : (o : Option ℕ) → current_now m x ≡ o
      → current_spins m (rows m.tick) x ≡ option_map_or (spins (under m rows) m.tick) (current_now m x) false
  go None e = ap (λ o. option_map_or (spins_now m (holder_in (rows m.tick))) o false) e
      ∙ sym (ap (λ o. option_map_or (spins (under m rows) m.tick) o false) e)
  go (Some s) e = ap (λ o. option_map_or (spins_now m (holder_in (rows m.tick))) o false) e
      ∙ spins_shown m rows s shows (current_shown m rows x s shows l e).0
      ∙ sym (ap (λ o. option_map_or (spins (under m rows) m.tick) o false) e)

-- The spinner of a processor.
pub spinner_shown : (m : MachineDef) (rows : ℕ → RowDef) (k : ℕ) → Shows m rows
    → spinner_now m (rows m.tick) k ≡ spinner_on (under m rows) m.tick k
unfolding spinner_now spinner_on
spinner_shown m rows k shows =
    go (found_below (length m.list.set.tasks) (is_spinning_task_now m (rows m.tick) k)) refl
    ∙ ap (option_and_then (active_job_of (under m rows) m.tick)) same where
      same : found_below (length m.list.set.tasks) (is_spinning_task_now m (rows m.tick) k)
          ≡ found_below (length m.list.set.tasks) (is_spinning_task (under m rows) m.tick k)
      same = found_below-agree (length m.list.set.tasks) (is_spinning_task_now m (rows m.tick) k) (is_spinning_task (under m rows) m.tick k)
          (λ x l. ap (λ b. ((task_at m.list.set x).processor == k) && b) (current_shows m rows x shows l))

      go : (o : Option ℕ) → found_below (length m.list.set.tasks) (is_spinning_task_now m (rows m.tick) k) ≡ o
          → option_and_then (current_now m) (found_below (length m.list.set.tasks) (is_spinning_task_now m (rows m.tick) k))
          ≡ option_and_then (active_job_of (under m rows) m.tick)
          (found_below (length m.list.set.tasks) (is_spinning_task_now m (rows m.tick) k))
      go None e = ap (option_and_then (current_now m)) e ∙ sym (ap (option_and_then (active_job_of (under m rows) m.tick)) e)
      go (Some x) e = ap (option_and_then (current_now m)) e
          ∙ current_is m rows x shows (found_below-is (length m.list.set.tasks) (is_spinning_task_now m (rows m.tick) k) x e).0
          ∙ sym (ap (option_and_then (active_job_of (under m rows) m.tick)) e)

in_phase : (m : MachineDef) (rows : ℕ → RowDef) (j s : ℕ) (p : Phase)
    → charge_in (rows m.tick) j s p ≡ charge_by_spinner (under m rows) m.tick j s p
in_phase m rows j s Local = refl
in_phase m rows j s Finished = refl
in_phase m rows j s (Asking n q) = refl

-- What a job spins for.
spinning_shown : (m : MachineDef) (rows : ℕ → RowDef) (j : ℕ) → Shows m rows
    → spinning_charge_now m (rows m.tick) j
    ≡ option_and_then (λ s. charge_by_spinner (under m rows) m.tick j s (phase_of (under m rows) m.tick s))
    (spinner_on (under m rows) m.tick (processor_of (under m rows) j))
spinning_shown m rows j shows =
    ap (option_and_then (spinner_charge_now m (rows m.tick) j)) (spinner_shown m rows (processor_of (under m rows) j) shows)
    ∙ go (spinner_on (under m rows) m.tick (processor_of (under m rows) j)) refl where
      one : (s : ℕ) → spinner_on (under m rows) m.tick (processor_of (under m rows) j) ≡ Some s
          → spinner_charge_now m (rows m.tick) j s ≡ charge_by_spinner (under m rows) m.tick j s (phase_of (under m rows) m.tick s)
      one s e =
          let spinning : spins (under m rows) m.tick s ≡ true = (spinner_on_is (under m rows) m.tick (processor_of (under m rows) j) s e).1 in
          let listed : s < length m.list.jobs =
          in_request_listed (under m rows) m.tick s (spins_in_request (under m rows) m.tick s spinning) in
          ap (charge_in (rows m.tick) j s) (phase_shown m rows s shows listed) ∙ in_phase m rows j s (phase_of (under m rows) m.tick s)

      go : (o : Option ℕ) → spinner_on (under m rows) m.tick (processor_of (under m rows) j) ≡ o
          → option_and_then (spinner_charge_now m (rows m.tick) j) o
          ≡ option_and_then (λ s. charge_by_spinner (under m rows) m.tick j s (phase_of (under m rows) m.tick s)) o
      go None e = refl
      go (Some s) e = one s e

beside_shown : (m : MachineDef) (rows : ℕ → RowDef) (j : ℕ) (o : Option ℕ) → Shows m rows
    → charge_with m (rows m.tick) j o ≡ charge_beside (under m rows) m.tick j o
beside_shown m rows j (Some r) shows = refl
beside_shown m rows j None shows = spinning_shown m rows j shows

-- The charge of a blocked job.
pub spin_shown : (m : MachineDef) (rows : ℕ → RowDef) (j : ℕ) → Shows m rows
    → is_blocked is_shared_interference (under m rows) m.tick j ≡ true
    → beside_charge_now m (rows m.tick) j ≡ spin_charge (under m rows) m.tick j
unfolding spin_charge
spin_shown m rows j shows blocked = rw blocked (beside_shown m rows j (running_on (rows m.tick) (processor_of (under m rows) j)) shows)
