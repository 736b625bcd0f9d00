-- Ticks of a window: how many there are at most, and how long a job that runs in it was released before.
use Rattle.std.proofs.Common.{◌≡◌, ℕ, zero, suc, ◌+◌, ◌-◌, ◌<◌, ◌≤◌, Bool, true, false, length, refl, arith, inl, inr, min}
use Rattle.std.proofs.lemmas.Bool.{cases_lt, cases_Bool, both_ways}
use Rattle.number_laws.specs.Tests.{count_below}
use Rattle.number_laws.proofs.CountLaws.{flag-of_true, flag-of_false}
use Rattle.sporadic_model.specs.SetDef.{SetDef, task_at}
use Rattle.sporadic_model.specs.Accepted.{IsFormed, TaskOrder}
use Rattle.schedule_model.specs.JobDef.{job_of}
use Rattle.schedule_model.specs.LawfulJobs.{IsLawfulJob, AreLawfulJobs}
use Rattle.schedule_model.specs.RowDef.{Trace, jobs_of}
use Rattle.schedule_model.specs.Phase.{is_finished, phase_of}
use Rattle.schedule_model.specs.Phase.Phase.{Finished}
use Rattle.schedule_model.specs.Activity.{task_of, is_active}
use Rattle.schedule_laws.proofs.Ticks.{finished_stays}
use Rattle.schedule_laws.proofs.ActiveJobs.{Active, active_is, active_listed, active_since}
use Rattle.charge_laws.specs.Windows.{bound_end, EndedBy, EndedBefore, AreBounds}

-- At most b - a of the numbers from a on and before b pass a test.
count_below-within : (n a b : ℕ) (p : ℕ → Bool) → ((t : ℕ) → t < n → p t ≡ true → (a ≤ t) × (t < b)) → count_below n p ≤ min n b - a
count_below-within zero a b p h = omega arith
count_below-within (suc n) a b p h = elim (cases_Bool (p n)) [
  | inl passes ↦
      let here : (a ≤ n) × (n < b) = h n (omega arith) passes in
      omega (arith, here.0, here.1, flag-of_true (p n) passes, count_below-within n a b p (λ t l e. h t (omega arith) e))
  | inr fails ↦ omega (arith, flag-of_false (p n) fails, count_below-within n a b p (λ t l e. h t (omega arith) e))
]

-- The same if some number passes: then a and b are that far apart.
pub count_below-between : (n a b : ℕ) (p : ℕ → Bool) → ((t : ℕ) → t < n → p t ≡ true → (a ≤ t) × (t < b)) → 0 < count_below n p
    → count_below n p + a ≤ b
count_below-between n a b p h some = omega (arith, count_below-within n a b p h)

-- A job that is active at a tick hasn't ended before.
pub active_before_end : (w : Trace) (e t j : ℕ) → is_active w t j ≡ true → phase_of w e j ≡ Finished → t < e
active_before_end w e t j active finished = elim (cases_lt t e) [
  | inl before ↦ before
  | inr after ↦
      let a : Active w t j = active_is w t j active in
      let f : phase_of w t j ≡ Finished = finished_stays w e t j after finished in
      let x : is_finished (phase_of w t j) ≡ true = rw f refl in
      absurd (both_ways _ a.unfinished x)
]

-- If each job whose bound has passed at r has ended in time, a job that is active from r on was released less than its bound before r, or
-- later.
pub active_after : (w : Trace) (bound : ℕ → ℕ) (r t j : ℕ) → EndedBy w bound r → is_active w t j ≡ true → r ≤ t → r < bound_end w bound j
active_after w bound r t j ended active l = elim (cases_lt r (bound_end w bound j)) [
  | inl later ↦ later
  | inr passed ↦
      let before : t < bound_end w bound j =
      active_before_end w (bound_end w bound j) t j active (ended j (active_listed w t j active) passed) in
      absurd (omega arith)
]

-- If each job whose bound passes before e ends in time, a job that is active before e is active before its bound has passed.
pub active_within : (w : Trace) (bound : ℕ → ℕ) (e t j : ℕ) → EndedBefore w bound e → is_active w t j ≡ true → t < e
    → t < bound_end w bound j
active_within w bound e t j ended active l = elim (cases_lt t (bound_end w bound j)) [
  | inl before ↦ before
  | inr passed ↦ active_before_end w (bound_end w bound j) t j active (ended j (active_listed w t j active) (omega arith))
]

-- A job that arrives at least a period after an earlier one of its task is released after the earlier one's bound has passed.
pub earlier_ended : (w : Trace) (bound : ℕ → ℕ) (e j : ℕ) → AreLawfulJobs (jobs_of w)
    → bound (task_of w e) + (task_at w.set (task_of w e)).jitter ≤ (task_at w.set (task_of w e)).period → j < length w.jobs
    → EndedBy w bound (job_of w.jobs j).release → e < j → task_of w e ≡ task_of w j → phase_of w (job_of w.jobs j).release e ≡ Finished
earlier_ended w bound e j lawful short l ended before same =
    let apart : (job_of w.jobs e).arrival + (task_at w.set (task_of w e)).period ≤ (job_of w.jobs j).arrival =
    lawful.apart e j before l same in
    let first : IsLawfulJob w.set (job_of w.jobs e) = lawful.each e (omega arith) in
    let second : IsLawfulJob w.set (job_of w.jobs j) = lawful.each j l in
    let passed : bound_end w bound e ≤ (job_of w.jobs j).release = omega (arith, apart, first.in_time, second.arrived, short) in
    finished_stays w (bound_end w bound e) (job_of w.jobs j).release e passed (ended e (omega arith) passed)

-- So a job is active from its release until it ends.
pub active_from_release : (w : Trace) (bound : ℕ → ℕ) (t j : ℕ) → AreLawfulJobs (jobs_of w)
    → ((x : ℕ) → x < length w.set.tasks → bound x + (task_at w.set x).jitter ≤ (task_at w.set x).period) → j < length w.jobs
    → EndedBy w bound (job_of w.jobs j).release → (job_of w.jobs j).release ≤ t → is_finished (phase_of w t j) ≡ false
    → is_active w t j ≡ true
active_from_release w bound t j lawful short l ended released unfinished =
    active_since w (job_of w.jobs j).release t j
    (λ e before same. earlier_ended w bound e j lawful
    (short (task_of w e) (lawful.each e (omega arith)).task) l ended before same) released released unfinished

-- The bounds of a well formed set, each with its task's jitter, are at most the periods.
pub bounds_below_periods : (set : SetDef) (bound : ℕ → ℕ) (x : ℕ) → IsFormed set → AreBounds set bound → x < length set.tasks
    → bound x + (task_at set x).jitter ≤ (task_at set x).period
bounds_below_periods set bound x formed bounds l = let numbers : TaskOrder set x = formed.numbers x l in
    omega (arith, bounds.latest x l, numbers.jitter_to, numbers.deadline_to)
