-- Ticks of interference, divided by the task that interferes. It is a higher one of the job's processor.
use Rattle.std.proofs.Common.{◌≡◌, ℕ, ◌<◌, ◌≤◌, ◌==◌, Bool, true, false, refl, subst, arith, inl, inr, Some}
use Rattle.std.specs.Option.{option_map_or}
use Rattle.std.proofs.lemmas.Bool.{cases_Bool, and_parts, and_from, both_ways, eq-eqb, eqb-true}
use Rattle.number_laws.specs.Sums.{sum_below, flag}
use Rattle.number_laws.specs.Tests.{count_below}
use Rattle.number_laws.proofs.SumLaws.{sum_below-monotone, sum_below-swap, sum_below-term}
use Rattle.number_laws.proofs.CountLaws.{flag-of_true, flag-of_false}
use Rattle.sporadic_model.specs.SetDef.{is_higher_local}
use Rattle.schedule_model.specs.RowDef.{Trace, running_on}
use Rattle.schedule_model.specs.Activity.{task_of, processor_of}
use Rattle.schedule_model.specs.ProtocolLaws.{HasHigherRunner, IsSoundRow}
use Rattle.schedule_laws.proofs.KindsOfTicks.{HigherLocal, higher_local_is}
use Rattle.charge_laws.specs.Interferers.{is_interference_of}

-- A tick that is interference is interference by the task of the job that runs on the job's processor,
by_runner : (interferes : Trace → ℕ → ℕ → Bool) (w : Trace) (t j r : ℕ) → interferes w t j ≡ true
    → running_on (w.row t) (processor_of w j) ≡ Some r → is_interference_of interferes w t j (task_of w r) ≡ true
unfolding is_interference_of
by_runner interferes w t j r on runs =
    let named : option_map_or (λ y. task_of w y == task_of w r) (running_on (w.row t) (processor_of w j)) false ≡ true =
    rw runs (eq-eqb (task_of w r) (task_of w r) refl) in
    and_from _ _ on named

-- and by no task that isn't a higher one of that processor.
pub not_by_others : (interferes : Trace → ℕ → ℕ → Bool) (w : Trace) (t j h : ℕ) → IsSoundRow interferes w t
    → is_higher_local w.set (task_of w j) h ≡ false → is_interference_of interferes w t j h ≡ false
unfolding is_interference_of
not_by_others interferes w t j h sound other = elim (cases_Bool (is_interference_of interferes w t j h)) [
  | inr off ↦ off
  | inl on ↦
      let parts : (interferes w t j ≡ true)
      × (option_map_or (λ y. task_of w y == h) (running_on (w.row t) (processor_of w j)) false ≡ true) = and_parts _ _ on in
      let r : HasHigherRunner w t j = sound.interfering j parts.0 in
      let named : (task_of w r.runner == h) ≡ true = rw r.runs at parts.1 in
      let same : task_of w r.runner ≡ h = eqb-true (task_of w r.runner) h named in
      let higher : is_higher_local w.set (task_of w j) h ≡ true =
      subst (λ x. is_higher_local w.set (task_of w j) x ≡ true) same r.higher in
      absurd (both_ways _ other higher)
]

tick_by_task : (interferes : Trace → ℕ → ℕ → Bool) (w : Trace) (t j : ℕ) → IsSoundRow interferes w t
    → flag (interferes w t j) ≤ sum_below (task_of w j) (λ h. flag (is_interference_of interferes w t j h))
tick_by_task interferes w t j sound = elim (cases_Bool (interferes w t j)) [
  | inr off ↦ omega (arith, flag-of_false (interferes w t j) off)
  | inl on ↦
      let r : HasHigherRunner w t j = sound.interfering j on in
      let h : HigherLocal w.set (task_of w j) (task_of w r.runner) = higher_local_is w.set (task_of w j) (task_of w r.runner) r.higher in
      let one : flag (is_interference_of interferes w t j (task_of w r.runner)) ≡ 1 =
      flag-of_true _ (by_runner interferes w t j r.runner on r.runs) in
      omega (
        arith,
        flag-of_true (interferes w t j) on,
        one,
        sum_below-term (task_of w j) (λ x. flag (is_interference_of interferes w t j x)) (task_of w r.runner) h.higher,
      )
]

-- The ticks of interference are at most those by each higher task, together.
pub ticks_by_task : (interferes : Trace → ℕ → ℕ → Bool) (w : Trace) (e j : ℕ) → ((t : ℕ) → t < e → IsSoundRow interferes w t)
    → count_below e (λ t. interferes w t j)
    ≤ sum_below (task_of w j) (λ h. count_below e (λ t. is_interference_of interferes w t j h))
ticks_by_task interferes w e j sound =
    let each : count_below e (λ t. interferes w t j)
    ≤ sum_below e (λ t. sum_below (task_of w j) (λ h. flag (is_interference_of interferes w t j h))) =
    sum_below-monotone e (λ t. flag (interferes w t j))
    (λ t. sum_below (task_of w j) (λ h. flag (is_interference_of interferes w t j h)))
    (λ t l. tick_by_task interferes w t j (sound t l)) in
    let swap : sum_below e (λ t. sum_below (task_of w j) (λ h. flag (is_interference_of interferes w t j h)))
    ≡ sum_below (task_of w j) (λ h. count_below e (λ t. is_interference_of interferes w t j h)) =
    sum_below-swap e (task_of w j) (λ t h. flag (is_interference_of interferes w t j h)) in
    omega (arith, each, swap)
