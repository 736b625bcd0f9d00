-- Active jobs: one of each task, each of them in the list, and each until it is finished.
use Rattle.std.proofs.Common.{◌≡◌, ℕ, ◌<◌, ◌≤◌, ◌==◌, ◌&&◌, ◌||◌, not, true, false, length, refl, sym, ◌∙◌, arith}
use Rattle.std.proofs.Common.{inl, inr, Option, None, Some, leb}
use Rattle.std.proofs.lemmas.Bool.{cases_lt, cases_Bool, and_parts, and_from, or_left, or_right, not-true}
use Rattle.std.proofs.lemmas.Bool.{not_from_false, leb-true, le-leb, eq-eqb, eqb-true}
use Rattle.number_laws.specs.Tests.{all_below}
use Rattle.number_laws.proofs.TestLaws.{all_below-each, all_below-from, found_below-is, found_below-one}
use Rattle.schedule_model.specs.JobDef.{job_of}
use Rattle.schedule_model.specs.RowDef.{Trace}
use Rattle.schedule_model.specs.Phase.{is_local, is_finished, is_asking, phase_of}
use Rattle.schedule_model.specs.Phase.Phase.{Local, Asking, Finished}
use Rattle.schedule_model.specs.Activity.{task_of, is_pending, is_next, is_active, is_active_job_of, active_job_of}
use Rattle.schedule_model.specs.Activity.{is_requester, is_active_local}
use Rattle.schedule_model.proofs.RuleTests.{then_true}
use Rattle.schedule_laws.proofs.Ticks.{finished_true, local_true, asking_true, asking_is, finished_stays, unfinished_listed}

-- What it is to be active.
pub record Active (w : Trace) (t j : ℕ) : Type 0 where
  pub released : (job_of w.jobs j).release ≤ t
  pub unfinished : is_finished (phase_of w t j) ≡ false
  pub next : (e : ℕ) → e < j → task_of w e ≡ task_of w j → phase_of w t e ≡ Finished

-- An active job is all that.
pub active_is : (w : Trace) (t j : ℕ) → is_active w t j ≡ true → Active w t j
unfolding is_active is_pending is_next
active_is w t j h =
    let parts : ((leb (job_of w.jobs j).release t && not (is_finished (phase_of w t j))) ≡ true)
    × (all_below j (λ e. not (task_of w e == task_of w j) || is_finished (phase_of w t e)) ≡ true) = and_parts _ _ h in
    let pending : (leb (job_of w.jobs j).release t ≡ true) × (not (is_finished (phase_of w t j)) ≡ true) = and_parts _ _ parts.0 in
    record {
      released = leb-true _ _ pending.0;
      unfinished = not-true _ pending.1;
      next = λ e l s. finished_true (phase_of w t e) (then_true (task_of w e == task_of w j) (is_finished (phase_of w t e))
          (all_below-each j (λ k. not (task_of w k == task_of w j) || is_finished (phase_of w t k)) parts.1 e l) (eq-eqb _ _ s));
    }

next_passes : (w : Trace) (t j e : ℕ) → Active w t j → e < j → (not (task_of w e == task_of w j) || is_finished (phase_of w t e)) ≡ true
next_passes w t j e a l = elim (cases_Bool (task_of w e == task_of w j)) [
  | inl same ↦
      let f : phase_of w t e ≡ Finished = a.next e l (eqb-true _ _ same) in
      let done : is_finished (phase_of w t e) ≡ true = rw f refl in
      or_right (not (task_of w e == task_of w j)) (is_finished (phase_of w t e)) done
  | inr other ↦ or_left (not (task_of w e == task_of w j)) (is_finished (phase_of w t e))
      (not_from_false (task_of w e == task_of w j) other)
]

-- What is all that is active.
pub active_from : (w : Trace) (t j : ℕ) → Active w t j → is_active w t j ≡ true
unfolding is_active is_pending is_next
active_from w t j a = and_from _ _ (and_from _ _ (le-leb _ _ a.released) (not_from_false _ a.unfinished))
    (all_below-from j _ (λ e l. next_passes w t j e a l))

-- An active job is in the list.
pub active_listed : (w : Trace) (t j : ℕ) → is_active w t j ≡ true → j < length w.jobs
active_listed w t j h = let a : Active w t j = active_is w t j h in unfinished_listed w t j a.unfinished

not_both : (w : Trace) (t i j : ℕ) → Active w t i → Active w t j → task_of w i ≡ task_of w j → i < j → ⊥
not_both w t i j a b same l =
    let f : phase_of w t i ≡ Finished = b.next i l same in
    let x : is_finished (phase_of w t i) ≡ true = rw f refl in
    let y : is_finished (phase_of w t i) ≡ false = a.unfinished in
    cc

-- Each task has one active job.
pub one_active : (w : Trace) (t i j : ℕ) → is_active w t i ≡ true → is_active w t j ≡ true → task_of w i ≡ task_of w j → i ≡ j
one_active w t i j h g same =
    let a : Active w t i = active_is w t i h in
    let b : Active w t j = active_is w t j g in
    elim (cases_lt i j) [
      | inl before ↦ absurd (not_both w t i j a b same before)
      | inr rest ↦ elim (cases_lt j i) [
        | inl after ↦ absurd (not_both w t j i b a (sym same) after)
        | inr equal ↦ omega arith
      ]
    ]

-- An active job stays active until it is finished.
pub active_stays : (w : Trace) (u t j : ℕ) → is_active w u j ≡ true → u ≤ t → is_finished (phase_of w t j) ≡ false → is_active w t j ≡ true
active_stays w u t j h l unfinished =
    let a : Active w u j = active_is w u j h in
    active_from w t j (record {
      released = omega (arith, a.released);
      unfinished = unfinished;
      next = λ e before same. finished_stays w u t e l (a.next e before same);
    })

-- What it is to request q, and to be active and Local.
pub record Requester (w : Trace) (t q j : ℕ) : Type 0 where
  pub active : is_active w t j ≡ true
  pub number : ℕ
  pub phase : phase_of w t j ≡ Asking number q

-- A requester is active and in a request of q.
pub requester_is : (w : Trace) (t q j : ℕ) → is_requester w t q j ≡ true → Requester w t q j
unfolding is_requester
requester_is w t q j h =
    let parts : (is_active w t j ≡ true) × (is_asking q (phase_of w t j) ≡ true) = and_parts _ _ h in
    let a : (m : ℕ) × (phase_of w t j ≡ Asking m q) = asking_true q (phase_of w t j) parts.1 in
    record { active = parts.0; number = a.0; phase = a.1 }

-- What is active and in a request of q is a requester of it.
pub requester_from : (w : Trace) (t q j m : ℕ) → is_active w t j ≡ true → phase_of w t j ≡ Asking m q → is_requester w t q j ≡ true
unfolding is_requester
requester_from w t q j m a e = and_from _ _ a (asking_is m q (phase_of w t j) e)

-- A requester is in the list.
pub requester_listed : (w : Trace) (t q j : ℕ) → is_requester w t q j ≡ true → j < length w.jobs
requester_listed w t q j h = let r : Requester w t q j = requester_is w t q j h in active_listed w t j r.active

pub record ActiveLocal (w : Trace) (t j : ℕ) : Type 0 where
  pub active : is_active w t j ≡ true
  pub phase : phase_of w t j ≡ Local

-- An active Local job is active, and Local.
pub active_local_is : (w : Trace) (t j : ℕ) → is_active_local w t j ≡ true → ActiveLocal w t j
unfolding is_active_local
active_local_is w t j h = let parts : (is_active w t j ≡ true) × (is_local (phase_of w t j) ≡ true) = and_parts _ _ h in
    record { active = parts.0; phase = local_true _ parts.1 }

-- What is active, and Local, is an active Local job.
pub active_local_from : (w : Trace) (t j : ℕ) → is_active w t j ≡ true → phase_of w t j ≡ Local → is_active_local w t j ≡ true
unfolding is_active_local
active_local_from w t j a e = and_from _ _ a (rw e refl)

-- Where each earlier job of its task is finished at a tick, a job is active from then on, once it is released, until it
-- is finished.
pub active_since : (w : Trace) (u t j : ℕ) → ((e : ℕ) → e < j → task_of w e ≡ task_of w j → phase_of w u e ≡ Finished)
    → u ≤ t → (job_of w.jobs j).release ≤ t
    → is_finished (phase_of w t j) ≡ false → is_active w t j ≡ true
active_since w u t j earlier l released unfinished =
    active_from w t j (record {
      released = released;
      unfinished = unfinished;
      next = λ e b same. finished_stays w u t e l (earlier e b same);
    })

-- The active job of a task is active, and of the task.
pub active_job_is : (w : Trace) (t x j : ℕ) → active_job_of w t x ≡ Some j → (is_active w t j ≡ true) × (task_of w j ≡ x)
unfolding active_job_of is_active_job_of
active_job_is w t x j h =
    let found : (j < length w.jobs) × ((is_active w t j && (task_of w j == x)) ≡ true) =
    found_below-is (length w.jobs) (λ i. is_active w t i && (task_of w i == x)) j h in
    let parts : (is_active w t j ≡ true) × ((task_of w j == x) ≡ true) = and_parts (is_active w t j) (task_of w j == x) found.1 in
    (parts.0, eqb-true _ _ parts.1)

-- A job that is active, and of the task, is the task's active job.
pub active_job_from : (w : Trace) (t x j : ℕ) → is_active w t j ≡ true → task_of w j ≡ x → active_job_of w t x ≡ Some j
unfolding active_job_of is_active_job_of
active_job_from w t x j active own =
    found_below-one (length w.jobs) (λ i. is_active w t i && (task_of w i == x)) j (active_listed w t j active)
    (and_from _ _ active (eq-eqb _ _ own))
    (λ i l h. let parts : (is_active w t i ≡ true) × ((task_of w i == x) ≡ true) =
    and_parts (is_active w t i) (task_of w i == x) h in
    one_active w t i j parts.0 active (eqb-true _ _ parts.1 ∙ sym own))

-- Where none of its jobs is active, a task has no active job.
pub active_job_missing : (w : Trace) (t x : ℕ) → ((j : ℕ) → task_of w j ≡ x → is_active w t j ≡ false) → active_job_of w t x ≡ None
active_job_missing w t x none = go (active_job_of w t x) refl where
  go : (o : Option ℕ) → active_job_of w t x ≡ o → active_job_of w t x ≡ None
  go None e = e
  go (Some j) e = let a : (is_active w t j ≡ true) × (task_of w j ≡ x) = active_job_is w t x j e in
      let b : is_active w t j ≡ false = none j a.1 in absurd (cc)

-- Where a task has no active job, none of its jobs is active.
pub active_job_none : (w : Trace) (t x j : ℕ) → active_job_of w t x ≡ None → task_of w j ≡ x → is_active w t j ≡ false
active_job_none w t x j h own = elim (cases_Bool (is_active w t j)) [
  | inl active ↦ let a : active_job_of w t x ≡ Some j = active_job_from w t x j active own in
      let y : None ≡ Some j = sym h ∙ a in absurd (cc)
  | inr none ↦ none
]
