-- What a job is blocked indirectly while higher tasks hold what it waits for: at most one request of a task for each of these holdings, which
-- are within the windows of its waits.
use Rattle.std.proofs.Common.{◌≡◌, ℕ, ◌*◌, ◌<◌, ◌≤◌, ◌==◌, ◌&&◌, not, true, length, sym, ap, ◌∙◌, arith, inl, inr}
use Rattle.std.proofs.lemmas.Bool.{cases_lt, and_parts, eqb-true, ltb-true, ltb-false, not-true}
use Rattle.number_laws.specs.Sums.{sum_below, only_if}
use Rattle.number_laws.proofs.SumLaws.{sum_below-monotone, sum_below-none_or_some, sum_below-times}
use Rattle.number_laws.proofs.SlotLaws.{sum_below-slots}
use Rattle.sporadic_model.specs.Users.{count_of, length_of, is_user}
use Rattle.schedule_model.specs.RowDef.{Trace}
use Rattle.schedule_model.specs.Phase.Phase.{Asking}
use Rattle.schedule_model.specs.Activity.{task_of, is_active}
use Rattle.schedule_model.specs.Ranks.{mpcp}
use Rattle.schedule_laws.proofs.Holders.{open_active}
use Rattle.blocking_columns.specs.ColumnDef.{is_indirect}
use Rattle.blocking_columns.specs.Windows.{jobs_in, requests_in, requests_during}
use Rattle.indirect_constraints.specs.Rows.{is_beside}
use Rattle.charge_laws.specs.Charges.{shared_charge}
use Rattle.charge_laws.specs.Windows.{bound_end, window_end, EndedWithin}
use Rattle.charge_laws.proofs.SharedCharging.{IndirectBy, shared_reason}
use Rattle.row_laws.proofs.Brings.{flag_times-passes, only_if-parts}
use Rattle.row_laws.proofs.Holdings.{own_resource, first_holder}
use Rattle.row_laws.proofs.HoldingParts.{Holding, for_resource, is_low, high_part, task_part, ForResource, for_resource_is, job_paid}
use Rattle.row_laws.proofs.JobRows.{paid_in_window, product_turned}
use Rattle.row_laws.proofs.Requests.{indirect_is, indirect_by}
use Rattle.closer_mpcp_laws.proofs.SharedHoldings.{HigherHeld}
use Rattle.mpcp_window_laws.specs.WaitRows.{requests_in_waits, held_in_waits}
use Rattle.mpcp_window_laws.proofs.WaitLimits.{paid_in_each}
use Rattle.mpcp_window_laws.proofs.PaidInWaits.{Waits, WaitsBeside, requests_paid}

-- What is known of a tick that counts while a job of y holds q: job j waits for q, which it uses, and x is on that job's processor.
record HeldThen (w : Trace) (j x q y t : ℕ) : Type 0 where
  user : is_user w.set q (task_of w j) ≡ true
  beside : is_beside w.set x y ≡ true
  own : is_active w t j ≡ true
  wait : WaitsBeside w t j q y (first_holder w j t)

held_then : (w : Trace) (bound : ℕ → ℕ) (n j q x y s t : ℕ) (share : ℕ → ℕ → ℕ) → Holding w bound n j x s share
    → t < window_end w bound n j → 0 < task_part w j x share q y t → HeldThen w j x q y t
held_then w bound n j q x y s t share c l some = record {
  user = ap (λ r. is_user w.set r (task_of w j)) (sym h.resource) ∙ h.facts.user;
  beside = ap (is_beside w.set x) (sym same) ∙ h.facts.beside;
  own = h.facts.active;
  wait = record {
    number = h.facts.number;
    asks = h.facts.asks ∙ ap (Asking h.facts.number) h.resource;
    waits = by.waits.other;
    active = open_active w n t (first_holder w j t) h.facts.holding (own_resource w j t) c.window.active (omega (arith, l))
        (c.window.lawful.each (first_holder w j t) h.facts.listed).script h.facts.held;
    task = same;
  };
} where
  task : ((task_of w (first_holder w j t) == y) ≡ true) × (0 < high_part w j x share q t)
  task = only_if-parts (task_of w (first_holder w j t) == y) (high_part w j x share q t) some

  same : task_of w (first_holder w j t) ≡ y
  same = eqb-true (task_of w (first_holder w j t)) y task.0

  high : (not (is_low w j t) ≡ true) × (0 < for_resource w j x share q t)
  high = only_if-parts (not (is_low w j t)) (for_resource w j x share q t) task.1

  h : ForResource w j x share q t
  h = for_resource_is w bound n j x s share q t c l high.1

  both : ((task_of w h.hits.charge.job == x) ≡ true) × (is_indirect h.hits.charge.class ≡ true)
  both = and_parts (task_of w h.hits.charge.job == x) (is_indirect h.hits.charge.class)
      (flag_times-passes ((task_of w h.hits.charge.job == x) && is_indirect h.hits.charge.class)
      (share (task_of w h.hits.charge.job) h.hits.resource) h.hits.some)

  by : IndirectBy mpcp w t j h.hits.charge.job
  by = indirect_by mpcp w t j h.hits.charge.job h.hits.charge.class (indirect_is h.hits.charge.class both.1)
      (shared_reason mpcp w t j h.hits.charge (c.keeps t (omega (arith, l))) h.hits.is_it)

-- So what is charged to x then is at most a whole for each request of q that jobs of y make within the windows.
pub indirect_in_waits : (w : Trace) (bound : ℕ → ℕ) (n j q b x y s : ℕ) (share : ℕ → ℕ → ℕ) → Waits w bound n j q b
    → ((z r : ℕ) → share z r * length_of w.set z r ≤ s) → y < length w.set.tasks
    → sum_below (window_end w bound n j) (λ t. task_part w j x share q y t)
    ≤ s * (count_of w.set (task_of w j) q * requests_during w.set bound b y q)
indirect_in_waits w bound n j q b x y s share a fair known =
    requests_paid w bound n j q b y q s (first_holder w j) (λ t. task_part w j x share q y t) a
    (record {
      beside = λ t l some. let h : HeldThen w j x q y t = held_then w bound n j q x y s t share c l some in h.wait;
      most = λ z listed task. job_paid w bound n j x s share q y z c listed task;
    })
    known where
      c : Holding w bound n j x s share
      c = record { window = a.window; keeps = a.keeps; fair = fair }

-- While jobs of y hold q: at most a whole for each of their requests that can run while j waits.
task_paid : (w : Trace) (bound : ℕ → ℕ) (n j q x y s : ℕ) (share : ℕ → ℕ → ℕ) → Holding w bound n j x s share
    → EndedWithin w bound (bound_end w bound j) n → y < length w.set.tasks
    → sum_below (window_end w bound n j) (λ t. task_part w j x share q y t)
    ≤ s * only_if (is_beside w.set x y) (requests_in_waits w.set bound (task_of w j) q y q)
task_paid w bound n j q x y s share c ended known =
    sum_below-none_or_some e (s * only_if (is_beside w.set x y) (requests_in_waits w.set bound i q y q)) part (λ t l some. from t l some) where
      i : ℕ
      i = task_of w j

      e : ℕ
      e = window_end w bound n j

      part : ℕ → ℕ
      part = λ t. task_part w j x share q y t

      all : sum_below e part ≤ s * requests_in w.set bound i y q
      all =
          let paid : sum_below e part ≤ jobs_in w.set bound i y * (count_of w.set y q * s) =
          paid_in_window shared_charge w bound n j y (count_of w.set y q * s) (first_holder w j) part c.window known
          (λ t l some. let h : HeldThen w j x q y t = held_then w bound n j q x y s t share c l some in (h.own, h.wait.active, h.wait.task))
          (λ z listed task. job_paid w bound n j x s share q y z c listed task) in
          omega (arith, paid, product_turned (jobs_in w.set bound i y) (count_of w.set y q) s)

      from : (t : ℕ) → t < e → 0 < part t → sum_below e part ≤ s * only_if (is_beside w.set x y) (requests_in_waits w.set bound i q y q)
      from t l some =
          let h : HeldThen w j x q y t = held_then w bound n j q x y s t share c l some in
          rw h.beside (paid_in_each w.set bound i q y q s (sum_below e part) (ltb-true 0 (count_of w.set i q) h.user) all
          (λ b is. indirect_in_waits w bound n j q b x y s share
          (record { window = c.window; keeps = c.keeps; ended = ended; limit = is }) c.fair known))

-- So while higher tasks hold q what is charged to x indirectly is paid for by their holdings in j's waits for q.
pub high_in_waits : (w : Trace) (bound : ℕ → ℕ) (n j q x s : ℕ) (share : ℕ → ℕ → ℕ) → Holding w bound n j x s share
    → EndedWithin w bound (bound_end w bound j) n
    → sum_below (window_end w bound n j) (λ t. high_part w j x share q t) ≤ s * held_in_waits w.set (task_of w j) bound x q
high_in_waits w bound n j q x s share c ended =
    let slots : sum_below e (λ t. high_part w j x share q t) ≡ sum_below i (λ y. sum_below e (λ t. task_part w j x share q y t)) =
    sum_below-slots e i (λ t. task_of w (first_holder w j t)) (λ t. high_part w j x share q t) (λ t l some. higher t l some) in
    let each : sum_below i (λ y. sum_below e (λ t. task_part w j x share q y t))
    ≤ sum_below i (λ y. s * only_if (is_beside w.set x y) (requests_in_waits w.set bound i q y q)) =
    sum_below-monotone i (λ y. sum_below e (λ t. task_part w j x share q y t))
    (λ y. s * only_if (is_beside w.set x y) (requests_in_waits w.set bound i q y q))
    (λ y l. task_paid w bound n j q x y s share c ended (omega (arith, l, known))) in
    omega (
      arith,
      slots,
      each,
      sum_below-times i s (λ y. only_if (is_beside w.set x y) (requests_in_waits w.set bound i q y q)),
    ) where
      i : ℕ
      i = task_of w j

      e : ℕ
      e = window_end w bound n j

      known : i < length w.set.tasks
      known = (c.window.lawful.each j c.window.listed).task

      higher : (t : ℕ) → t < e → 0 < high_part w j x share q t → task_of w (first_holder w j t) < i
      higher t l some =
          let high : (not (is_low w j t) ≡ true) × (0 < for_resource w j x share q t) =
          only_if-parts (not (is_low w j t)) (for_resource w j x share q t) some in
          let h : ForResource w j x share q t = for_resource_is w bound n j x s share q t c l high.1 in
          let most : task_of w (first_holder w j t) ≤ i = ltb-false i (task_of w (first_holder w j t)) (not-true (is_low w j t) high.0) in
          elim (cases_lt (task_of w (first_holder w j t)) i) [
            | inl less ↦ less
            | inr same ↦ absurd (h.facts.other (omega (arith, most, same)))
          ]

-- They pay for the rows of shared holdings.
pub higher_held_in_waits : (w : Trace) (bound : ℕ → ℕ) (n j x : ℕ) → EndedWithin w bound (bound_end w bound j) n
    → HigherHeld w bound n j x (held_in_waits w.set (task_of w j))
higher_held_in_waits w bound n j x ended s share c q = high_in_waits w bound n j q x s share c ended
