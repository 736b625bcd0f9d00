-- While a job waits for a resource, few jobs of another task run: those that can run within the windows of these waits.
use Rattle.std.proofs.Common.{◌≡◌, ℕ, ◌+◌, ◌*◌, ◌<◌, ◌≤◌, ◌==◌, true, false, length, sym, ap, ◌∙◌, arith, Some}
use Rattle.std.proofs.Math.Nat.{mul_assoc, mul_comm}
use Rattle.std.proofs.lemmas.Bool.{eqb-true}
use Rattle.number_laws.specs.Sums.{sum_below, only_if}
use Rattle.number_laws.proofs.SumLaws.{sum_below-monotone, sum_below-none_or_some, only_if-at_most}
use Rattle.number_laws.proofs.OnlyIfLaws.{only_if-rises}
use Rattle.sporadic_model.specs.Users.{count_of}
use Rattle.schedule_model.specs.RowDef.{Trace}
use Rattle.schedule_model.specs.Phase.{phase_of}
use Rattle.schedule_model.specs.Phase.Phase.{Asking}
use Rattle.schedule_model.specs.Activity.{task_of, is_active, is_ready, issue_tick_of}
use Rattle.schedule_model.specs.Ranks.{mpcp}
use Rattle.schedule_model.specs.Protocols.{shared_rule}
use Rattle.schedule_model.specs.Keeping.{KeepsBefore}
use Rattle.schedule_laws.proofs.Holders.{open_active}
use Rattle.schedule_laws.proofs.Issues.{issue_at_most, issue_no_later, open_at_issue}
use Rattle.blocking_columns.specs.Windows.{jobs_during, requests_during}
use Rattle.charge_laws.specs.Charges.{shared_charge}
use Rattle.charge_laws.specs.Windows.{bound_end, window_end, EndedWithin}
use Rattle.row_laws.proofs.Brings.{Window, only_if-parts}
use Rattle.row_laws.proofs.JobRows.{ActiveIn, paid_in_span, product_turned}
use Rattle.row_laws.proofs.Numbers.{number_of}
use Rattle.mpcp_window_laws.specs.MpcpWindows.{wait_window}
use Rattle.mpcp_window_laws.proofs.Waiting.{Waiting}
use Rattle.mpcp_window_laws.proofs.Granting.{waits_in_window}
use Rattle.mpcp_window_laws.proofs.RequestSlots.{by_own_request}

-- What is known of job j's window; and b is the window of its waits for q.
pub record Waits (w : Trace) (bound : ℕ → ℕ) (n j q b : ℕ) : Type 0 where
  pub window : Window shared_charge w bound n j
  pub keeps : KeepsBefore (shared_rule mpcp) w n
  pub ended : EndedWithin w bound (bound_end w bound j) n
  pub limit : wait_window w.set bound (task_of w j) q ≡ Some b

-- Job j waits for q, and job y of task x is active.
pub record WaitsBeside (w : Trace) (t j q x y : ℕ) : Type 0 where
  pub number : ℕ
  pub asks : phase_of w t j ≡ Asking number q
  pub waits : is_ready w t j ≡ false
  pub active : is_active w t y ≡ true
  pub task : task_of w y ≡ x

-- A tick of the window at which it waits in request number m is one of a wait from that request's issue on.
waits_from : (w : Trace) (bound : ℕ → ℕ) (n j q b v t m : ℕ) → Waits w bound n j q b → v < window_end w bound n j
    → t < window_end w bound n j → phase_of w v j ≡ Asking m q → phase_of w t j ≡ Asking m q → is_ready w t j ≡ false
    → Waiting w bound n (issue_tick_of w v j) t j m q
waits_from w bound n j q b v t m a within l here there waits = record {
  lawful = a.window.lawful;
  keeps = a.keeps;
  periods = a.window.periods;
  ended = λ y listed passed. a.ended y listed (omega (arith, passed, early, within)) (omega (arith, passed, early, within));
  order = issue_no_later w t v j m q q there here;
  within = omega (arith, l);
  active = open_active w n (issue_tick_of w v j) j m q a.window.active (omega (arith, early, within))
      (a.window.lawful.each j a.window.listed).script issued;
  early = issued;
  late = there;
  waits = waits;
} where
  early : issue_tick_of w v j ≤ v
  early = issue_at_most w v j

  issued : phase_of w (issue_tick_of w v j) j ≡ Asking m q
  issued = open_at_issue w v j m q here

-- What is known of the ticks that count: job j waits for q, and a job of x pays. Each of these jobs pays at most c.
pub record Paid (w : Trace) (bound : ℕ → ℕ) (n j q x c : ℕ) (by g : ℕ → ℕ) : Type 0 where
  pub beside : (t : ℕ) → t < window_end w bound n j → 0 < g t → WaitsBeside w t j q x (by t)
  pub most : (y : ℕ) → y < length w.jobs → task_of w y ≡ x
      → sum_below (window_end w bound n j) (λ t. only_if (by t == y) (g t)) ≤ c

-- While j waits in one request, at most as many jobs pay as can run within the window.
wait_paid : (w : Trace) (bound : ℕ → ℕ) (n j q b x c : ℕ) (by g : ℕ → ℕ) (m v : ℕ) → Waits w bound n j q b → Paid w bound n j q x c by g
    → x < length w.set.tasks → v < window_end w bound n j → phase_of w v j ≡ Asking m q
    → sum_below (window_end w bound n j) (λ t. only_if (number_of (phase_of w t j) == m) (g t)) ≤ jobs_during w.set bound b x * c
wait_paid w bound n j q b x c by g m v a paid known within here =
    paid_in_span w bound (issue_tick_of w v j) b x e c by term a.window.lawful (a.window.periods x known)
    (λ y listed passed. a.ended y listed (omega (arith, passed, issue_at_most w v j, within))
    (omega (arith, passed, issue_at_most w v j, within)))
    (λ t l some. inside t l some) (λ y listed task. job_pays y listed task) where
      e : ℕ
      e = window_end w bound n j

      term : ℕ → ℕ
      term = λ t. only_if (number_of (phase_of w t j) == m) (g t)

      inside : (t : ℕ) → t < e → 0 < term t → ActiveIn w (issue_tick_of w v j) (issue_tick_of w v j + b) x (by t)
      inside t l some =
          let parts : ((number_of (phase_of w t j) == m) ≡ true) × (0 < g t) =
          only_if-parts (number_of (phase_of w t j) == m) (g t) some in
          let h : WaitsBeside w t j q x (by t) = paid.beside t l parts.1 in
          let number : h.number ≡ m = sym (ap number_of h.asks) ∙ eqb-true (number_of (phase_of w t j)) m parts.0 in
          let there : phase_of w t j ≡ Asking m q = h.asks ∙ ap (λ k. Asking k q) number in
          let stays : Waiting w bound n (issue_tick_of w v j) t j m q = waits_from w bound n j q b v t m a within l here there h.waits in
          record {
            tick = t;
            active = h.active;
            task = h.task;
            from = stays.order;
            before = waits_in_window w bound n (issue_tick_of w v j) t j m q b stays a.limit;
          }

      job_pays : (y : ℕ) → y < length w.jobs → task_of w y ≡ x → sum_below e (λ t. only_if (by t == y) (term t)) ≤ c
      job_pays y listed task =
          let less : sum_below e (λ t. only_if (by t == y) (term t)) ≤ sum_below e (λ t. only_if (by t == y) (g t)) =
          sum_below-monotone e (λ t. only_if (by t == y) (term t)) (λ t. only_if (by t == y) (g t))
          (λ t l. only_if-rises (by t == y) (term t) (g t) (λ h. only_if-at_most (number_of (phase_of w t j) == m) (g t))) in
          omega (arith, less, paid.most y listed task)

-- So while j waits for q at most as many pay as can run within the windows of all its requests of q.
pub paid_in_waits : (w : Trace) (bound : ℕ → ℕ) (n j q b x c : ℕ) (by g : ℕ → ℕ) → Waits w bound n j q b → Paid w bound n j q x c by g
    → x < length w.set.tasks
    → sum_below (window_end w bound n j) g ≤ count_of w.set (task_of w j) q * (jobs_during w.set bound b x * c)
paid_in_waits w bound n j q b x c by g a paid known =
    by_own_request w e j q (jobs_during w.set bound b x * c) (λ t. t) g (a.window.lawful.each j a.window.listed)
    (λ t l some. let h : WaitsBeside w t j q x (by t) = paid.beside t l some in (h.number, h.asks)) (λ m. by_number m) where
      e : ℕ
      e = window_end w bound n j

      by_number : (m : ℕ) → sum_below e (λ t. only_if (number_of (phase_of w t j) == m) (g t)) ≤ jobs_during w.set bound b x * c
      by_number m =
          sum_below-none_or_some e (jobs_during w.set bound b x * c) (λ t. only_if (number_of (phase_of w t j) == m) (g t))
          (λ v l some. let parts : ((number_of (phase_of w v j) == m) ≡ true) × (0 < g v) =
          only_if-parts (number_of (phase_of w v j) == m) (g v) some in
          let h : WaitsBeside w v j q x (by v) = paid.beside v l parts.1 in
          let number : h.number ≡ m = sym (ap number_of h.asks) ∙ eqb-true (number_of (phase_of w v j)) m parts.0 in
          wait_paid w bound n j q b x c by g m v a paid known l (h.asks ∙ ap (λ k. Asking k q) number))

-- The same if each job pays a whole for each of its requests of one resource.
pub requests_paid : (w : Trace) (bound : ℕ → ℕ) (n j q b x p s : ℕ) (by g : ℕ → ℕ) → Waits w bound n j q b
    → Paid w bound n j q x (count_of w.set x p * s) by g → x < length w.set.tasks
    → sum_below (window_end w bound n j) g ≤ s * (count_of w.set (task_of w j) q * requests_during w.set bound b x p)
requests_paid w bound n j q b x p s by g a paid known =
    let turned : jobs_during w.set bound b x * (count_of w.set x p * s) ≡ s * requests_during w.set bound b x p =
    product_turned (jobs_during w.set bound b x) (count_of w.set x p) s in
    let outer : count_of w.set (task_of w j) q * (s * requests_during w.set bound b x p)
    ≡ s * (count_of w.set (task_of w j) q * requests_during w.set bound b x p) =
    sym (mul_assoc (count_of w.set (task_of w j) q) s (requests_during w.set bound b x p))
    ∙ ap (λ z. z * requests_during w.set bound b x p) (mul_comm (count_of w.set (task_of w j) q) s)
    ∙ mul_assoc s (count_of w.set (task_of w j) q) (requests_during w.set bound b x p) in
    let whole : count_of w.set (task_of w j) q * (jobs_during w.set bound b x * (count_of w.set x p * s))
    ≡ s * (count_of w.set (task_of w j) q * requests_during w.set bound b x p) =
    ap (λ z. count_of w.set (task_of w j) q * z) turned ∙ outer in
    omega (arith, whole, paid_in_waits w bound n j q b x (count_of w.set x p * s) by g a paid known)
