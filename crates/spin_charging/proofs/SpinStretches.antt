-- Each tick of a steady stretch is charged as its first: the same job runs on each processor, or the same job spins there.
use Rattle.std.proofs.Common.{◌≡◌, ℕ, ◌==◌, ◌&&◌, false, length, refl, ap, ◌∙◌, Option, None, Some}
use Rattle.std.specs.Prelude.{if◌then◌else◌}
use Rattle.std.specs.Option.{option_map_or, option_and_then}
use Rattle.number_laws.specs.Tests.{found_below}
use Rattle.number_laws.proofs.TestLaws.{found_below-agree}
use Rattle.sporadic_model.specs.SetDef.{task_at}
use Rattle.schedule_model.specs.RowDef.{Trace, running_on}
use Rattle.schedule_model.specs.Phase.{Phase, phase_of}
use Rattle.schedule_model.specs.Phase.Phase.{Local, Asking, Finished}
use Rattle.schedule_model.specs.Activity.{task_of, processor_of, is_active_job_of, active_job_of}
use Rattle.schedule_model.specs.BlockedTicks.{is_shared_interference, is_blocked}
use Rattle.schedule_model.specs.Protocols.{EachSetSuits}
use Rattle.schedule_laws.proofs.Alike.{IsAlike, active_alike, running_alike, holder_alike, shared_blocked_alike}
use Rattle.blocking_columns.specs.declared.columns.Class.TheVariants.{Direct, Indirect}
use Rattle.charge_laws.specs.Charges.{Charge, charge_to}
use Rattle.charge_laws.specs.Stretches.{StaysCharged}
use Rattle.charge_laws.proofs.Stretches.{stays_where_alike}
use Rattle.spin_rules.specs.SpinRules.{spins, spin_rule}
use Rattle.spin_rules.proofs.SpinStretches.{spins_alike}
use Rattle.spin_charging.specs.SpinCharges.{is_spinning_task, spinner_on, charge_by_spinner, charge_beside, spin_charge}

-- The same job of each task is active.
is_active_job_alike : (w : Trace) (t u x j : ℕ) → IsAlike w t u → is_active_job_of w u x j ≡ is_active_job_of w t x j
unfolding is_active_job_of
is_active_job_alike w t u x j a = ap (λ b. b && (task_of w j == x)) (active_alike w t u j a)

active_job_alike : (w : Trace) (t u x : ℕ) → IsAlike w t u → active_job_of w u x ≡ active_job_of w t x
unfolding active_job_of
active_job_alike w t u x a =
    found_below-agree (length w.jobs) (is_active_job_of w u x) (is_active_job_of w t x) (λ j b. is_active_job_alike w t u x j a)

-- The same job spins on each processor.
spinning_task_alike : (w : Trace) (t u k x : ℕ) → IsAlike w t u → is_spinning_task w u k x ≡ is_spinning_task w t k x
spinning_task_alike w t u k x a =
    ap (λ o. ((task_at w.set x).processor == k) && option_map_or (spins w u) o false) (active_job_alike w t u x a)
    ∙ ap (λ b. ((task_at w.set x).processor == k) && b) (same (active_job_of w t x)) where
      same : (o : Option ℕ) → option_map_or (spins w u) o false ≡ option_map_or (spins w t) o false
      same None = refl
      same (Some r) = spins_alike w t u r a

spinner_alike : (w : Trace) (t u k : ℕ) → IsAlike w t u → spinner_on w u k ≡ spinner_on w t k
unfolding spinner_on
spinner_alike w t u k a =
    ap (option_and_then (active_job_of w u))
    (found_below-agree (length w.set.tasks) (is_spinning_task w u k) (is_spinning_task w t k) (λ x b. spinning_task_alike w t u k x a))
    ∙ same (found_below (length w.set.tasks) (is_spinning_task w t k)) where
      same : (o : Option ℕ) → option_and_then (active_job_of w u) o ≡ option_and_then (active_job_of w t) o
      same None = refl
      same (Some x) = active_job_alike w t u x a

-- So the charge is the same.
by_spinner_alike : (w : Trace) (t u j s : ℕ) (p : Phase) → IsAlike w t u → charge_by_spinner w u j s p ≡ charge_by_spinner w t j s p
by_spinner_alike w t u j s Local a = refl
by_spinner_alike w t u j s Finished a = refl
by_spinner_alike w t u j s (Asking n q) a = ap (charge_to (if s == j then Direct else Indirect)) (holder_alike w t u q a)

abbrev by_spinner : Trace → ℕ → ℕ → Option ℕ → Option Charge
by_spinner w t j o = option_and_then (λ s. charge_by_spinner w t j s (phase_of w t s)) o

beside_alike : (w : Trace) (t u j : ℕ) (o : Option ℕ) → IsAlike w t u → charge_beside w u j o ≡ charge_beside w t j o
beside_alike w t u j (Some r) a = refl
beside_alike w t u j None a =
    ap (by_spinner w u j) (spinner_alike w t u (processor_of w j) a) ∙ same (spinner_on w t (processor_of w j)) where
      same : (o : Option ℕ) → by_spinner w u j o ≡ by_spinner w t j o
      same None = refl
      same (Some s) = ap (charge_by_spinner w u j s) (a.phase s) ∙ by_spinner_alike w t u j s (phase_of w t s) a

spin_charge_alike : (w : Trace) (t u j : ℕ) → IsAlike w t u → spin_charge w u j ≡ spin_charge w t j
unfolding spin_charge
spin_charge_alike w t u j a =
    ap (λ b. if b then charge_beside w u j (running_on (w.row u) (processor_of w j)) else None) (shared_blocked_alike w t u j a)
    ∙ ap (λ c. if is_blocked is_shared_interference w t j then c else None)
    (ap (charge_beside w u j) (running_alike w t u (processor_of w j) a)
    ∙ beside_alike w t u j (running_on (w.row t) (processor_of w j)) a)

pub spin_stays_charged : StaysCharged EachSetSuits spin_rule spin_charge
spin_stays_charged = stays_where_alike EachSetSuits spin_rule spin_charge spin_charge_alike
