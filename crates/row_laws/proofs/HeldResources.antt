-- What is charged while a job waits, parted by the resource that it waits for. While higher tasks hold that resource, it is parted by the
-- jobs that do.
use Rattle.std.proofs.Common.{◌≡◌, ℕ, ◌+◌, ◌*◌, ◌<◌, ◌≤◌, ◌==◌, Bool, true, false, length, sym, ap, ◌∙◌, arith, inl, inr}
use Rattle.std.proofs.lemmas.Bool.{cases_lt, cases_Bool, both_ways, eqb-true}
use Rattle.number_laws.specs.Sums.{sum_below, only_if}
use Rattle.number_laws.proofs.SumLaws.{sum_below-monotone, sum_below-times, sum_below-zero}
use Rattle.number_laws.proofs.SlotLaws.{sum_below-slots}
use Rattle.sporadic_model.specs.Users.{count_of}
use Rattle.schedule_model.specs.JobDef.{job_of}
use Rattle.schedule_model.specs.RowDef.{Trace}
use Rattle.schedule_model.specs.Activity.{task_of, is_active}
use Rattle.blocking_columns.specs.ColumnDef.{ColumnDef}
use Rattle.blocking_columns.specs.Windows.{jobs_in, requests_in, requests_by_higher}
use Rattle.charge_laws.specs.Windows.{bound_end, window_end}
use Rattle.row_laws.specs.Meeting.{Charges, brings}
use Rattle.row_laws.proofs.Brings.{Window, Hit, hit, only_if-parts}
use Rattle.row_laws.proofs.JobRows.{ActiveIn, product_turned, paid_in_span}
use Rattle.row_laws.proofs.Holdings.{own_resource}

-- Job j requests a resource of the set that passes.
pub record Waits (w : Trace) (t j : ℕ) (ok : ℕ → Bool) : Type 0 where
  pub within : own_resource w j t < length w.set.resources
  pub passes : ok (own_resource w j t) ≡ true

-- Where what counts for each resource that passes is paid for, and job j requests such a resource whenever something counts, all is.
pub by_resource : (charges : Charges) (w : Trace) (bound : ℕ → ℕ) (n j s : ℕ) (f : ColumnDef → ℕ) (ok : ℕ → Bool) (limit : ℕ → ℕ)
    → ((t : ℕ) → t < window_end w bound n j → Hit charges w f j t → Waits w t j ok)
    → ((q : ℕ) → q < length w.set.resources → ok q ≡ true
    → sum_below (window_end w bound n j) (λ t. only_if (own_resource w j t == q) (brings charges w f j t)) ≤ s * limit q)
    → sum_below (window_end w bound n j) (λ t. brings charges w f j t)
    ≤ s * sum_below (length w.set.resources) (λ q. only_if (ok q) (limit q))
by_resource charges w bound n j s f ok limit waits most =
    let parts : sum_below (window_end w bound n j) (λ t. brings charges w f j t)
    ≡ sum_below (length w.set.resources) (λ q. sum_below (window_end w bound n j) (part q)) =
    sum_below-slots (window_end w bound n j) (length w.set.resources) (λ t. own_resource w j t) (λ t. brings charges w f j t)
    (λ t l some. (waits t l (hit charges w f j t some)).within) in
    let each : sum_below (length w.set.resources) (λ q. sum_below (window_end w bound n j) (part q))
    ≤ sum_below (length w.set.resources) (λ q. s * only_if (ok q) (limit q)) =
    sum_below-monotone (length w.set.resources) (λ q. sum_below (window_end w bound n j) (part q))
    (λ q. s * only_if (ok q) (limit q)) (λ q l. of_one q l) in
    omega (arith, parts, each, sum_below-times (length w.set.resources) s (λ q. only_if (ok q) (limit q))) where
      part : ℕ → ℕ → ℕ
      part = λ q t. only_if (own_resource w j t == q) (brings charges w f j t)

      nothing : (q : ℕ) → ok q ≡ false → (t : ℕ) → t < window_end w bound n j → part q t ≡ 0
      nothing q off t b = elim (cases_lt 0 (part q t)) [
        | inr none ↦ omega arith
        | inl some ↦
            let both : ((own_resource w j t == q) ≡ true) × (0 < brings charges w f j t) =
            only_if-parts (own_resource w j t == q) (brings charges w f j t) some in
            let a : Waits w t j ok = waits t b (hit charges w f j t both.1) in
            let passes : ok q ≡ true = ap ok (sym (eqb-true (own_resource w j t) q both.0)) ∙ a.passes in
            absurd (both_ways (ok q) off passes)
      ]

      of_one : (q : ℕ) → q < length w.set.resources → sum_below (window_end w bound n j) (part q) ≤ s * only_if (ok q) (limit q)
      of_one q l = elim (cases_Bool (ok q)) [
        | inl on ↦ rw on (most q l on)
        | inr off ↦
            let none : sum_below (window_end w bound n j) (part q) ≡ 0 =
            sum_below-zero (window_end w bound n j) (part q) (λ t b. nothing q off t b) in
            omega (arith, none)
      ]

-- Job z, of a task higher than j's that passes, is active at a tick of job j's window.
pub record HigherAt (w : Trace) (bound : ℕ → ℕ) (j : ℕ) (test : ℕ → Bool) (z t : ℕ) : Type 0 where
  pub active : is_active w t z ≡ true
  pub higher : task_of w z < task_of w j
  pub passes : test (task_of w z) ≡ true
  pub from : (job_of w.jobs j).release ≤ t
  pub before : t < bound_end w bound j

-- Where each tick that counts is paid for by such a job, and each job pays for as many as its task may request q, all are paid for by the
-- requests of q that higher tasks which pass can make in the window.
pub by_higher : (charges : Charges) (w : Trace) (bound : ℕ → ℕ) (n j q s : ℕ) (test : ℕ → Bool) (by at g : ℕ → ℕ)
    → Window charges w bound n j → ((t : ℕ) → t < window_end w bound n j → 0 < g t → HigherAt w bound j test (by t) (at t))
    → ((y z : ℕ) → z < length w.jobs → task_of w z ≡ y
    → sum_below (window_end w bound n j) (λ t. only_if (by t == z) (only_if (task_of w (by t) == y) (g t))) ≤ count_of w.set y q * s)
    → sum_below (window_end w bound n j) g ≤ s * requests_by_higher w.set bound (task_of w j) test q
by_higher charges w bound n j q s test by at g window higher most =
    let parts : sum_below (window_end w bound n j) g
    ≡ sum_below (task_of w j) (λ y. sum_below (window_end w bound n j) (part y)) =
    sum_below-slots (window_end w bound n j) (task_of w j) (λ t. task_of w (by t)) g (λ t l some. (higher t l some).higher) in
    let each : sum_below (task_of w j) (λ y. sum_below (window_end w bound n j) (part y))
    ≤ sum_below (task_of w j) (λ y. s * only_if (test y) (requests_in w.set bound (task_of w j) y q)) =
    sum_below-monotone (task_of w j) (λ y. sum_below (window_end w bound n j) (part y))
    (λ y. s * only_if (test y) (requests_in w.set bound (task_of w j) y q)) (λ y l. task_paid y (omega (arith, l, listed))) in
    omega (
      arith,
      parts,
      each,
      sum_below-times (task_of w j) s (λ y. only_if (test y) (requests_in w.set bound (task_of w j) y q)),
    ) where
      listed : task_of w j < length w.set.tasks
      listed = (window.lawful.each j window.listed).task

      part : ℕ → ℕ → ℕ
      part = λ y t. only_if (task_of w (by t) == y) (g t)

      of_task : (y t : ℕ) → t < window_end w bound n j → 0 < part y t
          → ((task_of w (by t) ≡ y) × HigherAt w bound j test (by t) (at t))
      of_task y t l some =
          let both : ((task_of w (by t) == y) ≡ true) × (0 < g t) = only_if-parts (task_of w (by t) == y) (g t) some in
          (eqb-true _ _ both.0, higher t l both.1)

      nothing : (y : ℕ) → test y ≡ false → (t : ℕ) → t < window_end w bound n j → part y t ≡ 0
      nothing y off t l = elim (cases_lt 0 (part y t)) [
        | inr none ↦ omega arith
        | inl some ↦
            let a : (task_of w (by t) ≡ y) × HigherAt w bound j test (by t) (at t) = of_task y t l some in
            let passes : test y ≡ true = ap test (sym a.0) ∙ a.1.passes in
            absurd (both_ways (test y) off passes)
      ]

      active : (y t : ℕ) → t < window_end w bound n j → 0 < part y t
          → ActiveIn w (job_of w.jobs j).release ((job_of w.jobs j).release + bound (task_of w j)) y (by t)
      active y t l some =
          let a : (task_of w (by t) ≡ y) × HigherAt w bound j test (by t) (at t) = of_task y t l some in
          record { tick = at t; active = a.1.active; task = a.0; from = a.1.from; before = a.1.before }

      task_paid : (y : ℕ) → y < length w.set.tasks
          → sum_below (window_end w bound n j) (part y) ≤ s * only_if (test y) (requests_in w.set bound (task_of w j) y q)
      task_paid y l = elim (cases_Bool (test y)) [
        | inr off ↦
            let none : sum_below (window_end w bound n j) (part y) ≡ 0 =
            sum_below-zero (window_end w bound n j) (part y) (λ t b. nothing y off t b) in
            omega (arith, none)
        | inl on ↦
            let paid : sum_below (window_end w bound n j) (part y)
            ≤ jobs_in w.set bound (task_of w j) y * (count_of w.set y q * s) =
            paid_in_span w bound (job_of w.jobs j).release (bound (task_of w j)) y (window_end w bound n j) (count_of w.set y q * s) by
            (part y) window.lawful (window.periods y l) window.ended (λ t b some. active y t b some) (λ z b task. most y z b task) in
            rw on (omega (arith, paid, product_turned (jobs_in w.set bound (task_of w j) y) (count_of w.set y q) s))
      ]
