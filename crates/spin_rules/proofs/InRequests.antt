-- Jobs in a request, and jobs that spin.
use Rattle.std.proofs.Common.{◌≡◌, ℕ, ◌<◌, ◌==◌, ◌&&◌, not, true, false, length, refl, Some}
use Rattle.std.proofs.lemmas.Bool.{both_ways, and_parts, and_from, not-true, not_from_false, eq-eqb, eqb-true, false_from_ne_true}
use Rattle.number_laws.proofs.TestLaws.{any_below-from, any_below-some}
use Rattle.schedule_model.specs.RowDef.{Trace, holder_in}
use Rattle.schedule_model.specs.Phase.{Phase, is_local, is_finished, phase_of}
use Rattle.schedule_model.specs.Phase.Phase.{Local, Asking, Finished}
use Rattle.schedule_model.specs.Activity.{processor_of, is_active, holds_by, is_active_local, is_ready_holder, is_ready}
use Rattle.schedule_laws.proofs.ActiveJobs.{Active, active_is, active_listed, active_local_from}
use Rattle.schedule_laws.proofs.Rows.{holds_true, holds_from, ready_local, ready_holding, ready_holder_from}
use Rattle.spin_rules.specs.SpinRules.{is_in_request, spins, has_spinner}

-- What it is to be in a request.
pub record InRequest (w : Trace) (t j : ℕ) : Type 0 where
  pub active : is_active w t j ≡ true
  pub number : ℕ
  pub resource : ℕ
  pub phase : phase_of w t j ≡ Asking number resource

request_phase : (p : Phase) → not (is_local p) ≡ true → is_finished p ≡ false → (m : ℕ) × (q : ℕ) × (p ≡ Asking m q)
request_phase (Asking m q) h f = (m, q, refl)
request_phase Local h f = absurd (cc)
request_phase Finished h f = absurd (cc)

-- A job in a request is active, and asks.
pub in_request_is : (w : Trace) (t j : ℕ) → is_in_request w t j ≡ true → InRequest w t j
unfolding is_in_request
in_request_is w t j h =
    let parts : (is_active w t j ≡ true) × (not (is_local (phase_of w t j)) ≡ true) = and_parts _ _ h in
    let active : Active w t j = active_is w t j parts.0 in
    let a : (m : ℕ) × (q : ℕ) × (phase_of w t j ≡ Asking m q) = request_phase (phase_of w t j) parts.1 active.unfinished in
    record { active = parts.0; number = a.0; resource = a.1; phase = a.2 }

-- An active job that asks is in a request.
pub in_request_from : (w : Trace) (t j m q : ℕ) → is_active w t j ≡ true → phase_of w t j ≡ Asking m q → is_in_request w t j ≡ true
unfolding is_in_request
in_request_from w t j m q a e = and_from _ _ a (rw e refl)

-- A job in a request is in the list.
pub in_request_listed : (w : Trace) (t j : ℕ) → is_in_request w t j ≡ true → j < length w.jobs
in_request_listed w t j h = active_listed w t j (in_request_is w t j h).active

-- What it is to spin.
pub record Spinning (w : Trace) (t j : ℕ) : Type 0 where
  pub active : is_active w t j ≡ true
  pub number : ℕ
  pub resource : ℕ
  pub phase : phase_of w t j ≡ Asking number resource
  pub waits : holder_in (w.row t) resource ≡ Some j → ⊥

-- A job that spins is in a request,
pub spins_in_request : (w : Trace) (t j : ℕ) → spins w t j ≡ true → is_in_request w t j ≡ true
unfolding spins
spins_in_request w t j h = (and_parts _ _ h).0

-- and doesn't hold the resource.
pub spinning_is : (w : Trace) (t j : ℕ) → spins w t j ≡ true → Spinning w t j
unfolding spins
spinning_is w t j h =
    let parts : (is_in_request w t j ≡ true) × (not (holds_by (holder_in (w.row t)) j (phase_of w t j)) ≡ true) = and_parts _ _ h in
    let a : InRequest w t j = in_request_is w t j parts.0 in
    record {
      active = a.active;
      number = a.number;
      resource = a.resource;
      phase = a.phase;
      waits = λ e. both_ways (holds_by (holder_in (w.row t)) j (phase_of w t j)) (not-true _ parts.1)
          (holds_from (holder_in (w.row t)) j (phase_of w t j) a.number a.resource a.phase e);
    }

-- A job in a request that isn't ready spins.
pub spins_from : (w : Trace) (t j m q : ℕ) → is_active w t j ≡ true → phase_of w t j ≡ Asking m q → is_ready w t j ≡ false
    → spins w t j ≡ true
unfolding spins
spins_from w t j m q active e off = and_from _ _ (in_request_from w t j m q active e)
    (not_from_false _ (false_from_ne_true (holds_by (holder_in (w.row t)) j (phase_of w t j)) (λ h. holds h))) where
      holds : holds_by (holder_in (w.row t)) j (phase_of w t j) ≡ true → ⊥
      holds h =
          let a : (m : ℕ) × (q : ℕ) × (phase_of w t j ≡ Asking m q) × (holder_in (w.row t) q ≡ Some j) =
          holds_true (holder_in (w.row t)) j (phase_of w t j) h in
          both_ways (is_ready w t j) off (ready_holding w t j (ready_holder_from w t j a.0 a.1 active a.2 a.3))

-- An active job that isn't ready spins.
pub waiting_spins : (w : Trace) (t j : ℕ) → is_active w t j ≡ true → is_ready w t j ≡ false → spins w t j ≡ true
waiting_spins w t j active off = go (phase_of w t j) refl where
  go : (p : Phase) → phase_of w t j ≡ p → spins w t j ≡ true
  go Local e = absurd (both_ways (is_ready w t j) off (ready_local w t j (active_local_from w t j active e)))
  go Finished e =
      let a : Active w t j = active_is w t j active in
      let x : is_finished (phase_of w t j) ≡ true = rw e refl in
      absurd (both_ways _ a.unfinished x)
  go (Asking m q) e = spins_from w t j m q active e off

-- A job that spins isn't ready.
pub spinner_waits : (w : Trace) (t j : ℕ) → spins w t j ≡ true → is_ready w t j ≡ false
unfolding spins is_ready is_active_local is_ready_holder
spinner_waits w t j h =
    let a : Spinning w t j = spinning_is w t j h in
    let off : holds_by (holder_in (w.row t)) j (phase_of w t j) ≡ false = not-true _ (and_parts _ _ h).1 in
    rw (off, a.active, a.phase) refl

-- A job that spins on a processor is one of its spinners,
pub spinner_from : (w : Trace) (t k i : ℕ) → processor_of w i ≡ k → spins w t i ≡ true → has_spinner w t k ≡ true
unfolding has_spinner
spinner_from w t k i place h = any_below-from (length w.jobs) (λ x. (processor_of w x == k) && spins w t x) i
    (in_request_listed w t i (spins_in_request w t i h)) (and_from _ _ (eq-eqb _ _ place) h)

-- and a processor with a spinner has such a job.
pub spinner_is : (w : Trace) (t k : ℕ) → has_spinner w t k ≡ true → (i : ℕ) × (processor_of w i ≡ k) × (spins w t i ≡ true)
unfolding has_spinner
spinner_is w t k h =
    let some : (i : ℕ) × (i < length w.jobs) × (((processor_of w i == k) && spins w t i) ≡ true) =
    any_below-some (length w.jobs) (λ i. (processor_of w i == k) && spins w t i) h in
    let parts : ((processor_of w some.0 == k) ≡ true) × (spins w t some.0 ≡ true) = and_parts _ _ some.2 in
    (some.0, eqb-true _ _ parts.0, parts.1)
