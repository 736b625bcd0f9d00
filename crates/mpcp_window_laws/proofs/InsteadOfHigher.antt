-- What runs during a wait under MPCP instead of a higher job that holds the resource: of each task one request in each such holding, and no
-- more than its jobs make.
use Rattle.std.proofs.Common.{◌≡◌, ℕ, suc, ◌+◌, ◌*◌, ◌<◌, ◌≤◌, ◌==◌, ◌&&◌, not, Bool, true, false, length, refl, sym, ap, ◌∙◌}
use Rattle.std.proofs.Common.{arith, inl, inr, Some, nat_lt}
use Rattle.std.specs.Option.{option_map_or}
use Rattle.std.proofs.Math.Nat.{mul_assoc, mul_comm, mul-le-mul_right}
use Rattle.std.proofs.lemmas.Bool.{cases_lt, cases_Bool, and_parts, and_from, eq-eqb, eqb-true, ltb-true, not-true}
use Rattle.number_laws.specs.Sums.{sum_below, flag, only_if}
use Rattle.number_laws.specs.Tests.{count_below}
use Rattle.number_laws.proofs.SumLaws.{sum_below-monotone, sum_below-swap, sum_below-term, sum_below-only_if, sum_below-times_right}
use Rattle.number_laws.proofs.SumLaws.{only_if-at_most}
use Rattle.number_laws.proofs.CountLaws.{count_below-split, flag-passes, flag-at_most}
use Rattle.number_laws.proofs.OnlyIfLaws.{only_if-rises}
use Rattle.sporadic_model.specs.Users.{count_of, length_of}
use Rattle.schedule_model.specs.JobDef.{job_of, number_of_requests}
use Rattle.schedule_model.specs.LawfulJobs.{IsLawfulJob}
use Rattle.schedule_model.specs.RowDef.{Trace, running_on, holder_in, runs_in}
use Rattle.schedule_model.specs.Phase.{is_asking, phase_of}
use Rattle.schedule_model.specs.Phase.Phase.{Asking}
use Rattle.schedule_model.specs.Activity.{task_of, processor_of}
use Rattle.schedule_laws.specs.Counting.{executed_in, is_request}
use Rattle.schedule_laws.proofs.ActiveJobs.{active_listed}
use Rattle.schedule_laws.proofs.Counts.{asking_at_most}
use Rattle.schedule_laws.proofs.Rows.{named_job, runs_from}
use Rattle.schedule_laws.proofs.Segments.{open_resource}
use Rattle.schedule_laws.proofs.Ticks.{asking_is}
use Rattle.blocking_columns.specs.Windows.{jobs_during, requests_during}
use Rattle.closer_mpcp_laws.specs.CloserMpcpRows.{goes_first}
use Rattle.row_laws.proofs.Brings.{only_if-parts}
use Rattle.row_laws.proofs.JobRows.{paid_in_span}
use Rattle.row_laws.proofs.Numbers.{number_of}
use Rattle.window_laws.proofs.OpenRequests.{is_by, by_is, RunBy}
use Rattle.mpcp_window_laws.specs.MpcpWindows.{longest_first, may_run_instead, holdings_beside, time_first, ticks_instead}
use Rattle.mpcp_window_laws.proofs.Waiting.{Waiting, holder_of, HeldByOther, held_by_other}
use Rattle.mpcp_window_laws.proofs.OneHolding.{is_holding, holding_is, Instead, is_instead, instead_is, instead_ticks, RunsInstead, runs_instead}
use Rattle.mpcp_window_laws.proofs.RequestSlots.{by_own_request}
use Rattle.mpcp_window_laws.proofs.HigherHoldings.{active_early, is_held_by, holder_early}

-- Does a job of x run instead of a holder of a task higher than i?
abbrev pub is_instead_by : Trace → ℕ → ℕ → ℕ → ℕ → Bool
is_instead_by w q i x t =
    (nat_lt (task_of w (holder_of w q t)) i && not (runs_in (w.row t) (holder_of w q t))) && is_by w (processor_of w (holder_of w q t)) x t

-- What is said by that.
record InsteadBy (w : Trace) (j q x t : ℕ) : Type 0 where
  held : HeldByOther w t j q
  higher : task_of w (holder_of w q t) < task_of w j
  may : may_run_instead w.set (task_of w j) (task_of w (holder_of w q t)) x ≡ true
  is : is_instead w q (holder_of w q t) held.number x t ≡ true
  runner : Instead w q (holder_of w q t) held.number x t

pub holding_now : (w : Trace) (t j q : ℕ) → (h : HeldByOther w t j q) → is_holding w q (holder_of w q t) h.number t ≡ true
holding_now w t j q h =
    and_from _ _ (named_job (holder_of w q t) (holder_in (w.row t) q) h.holder)
    (ap (is_request h.number q) h.asks ∙ and_from _ _ (eq-eqb h.number h.number refl) (eq-eqb q q refl))

instead_by_is : (w : Trace) (bound : ℕ → ℕ) (n u v j m q x t : ℕ) → Waiting w bound n u v j m q → u ≤ t → t ≤ v
    → is_instead_by w q (task_of w j) x t ≡ true → InsteadBy w j q x t
instead_by_is w bound n u v j m q x t a from to h = record {
  held = held;
  higher = ltb-true (task_of w y) (task_of w j) both.0;
  may = may;
  is = is;
  runner = instead_is w bound n u v j m q y held.number x t a to may is;
} where
  y : ℕ
  y = holder_of w q t

  parts : ((nat_lt (task_of w y) (task_of w j) && not (runs_in (w.row t) y)) ≡ true) × (is_by w (processor_of w y) x t ≡ true)
  parts = and_parts (nat_lt (task_of w y) (task_of w j) && not (runs_in (w.row t) y)) (is_by w (processor_of w y) x t) h

  both : (nat_lt (task_of w y) (task_of w j) ≡ true) × (not (runs_in (w.row t) y) ≡ true)
  both = and_parts (nat_lt (task_of w y) (task_of w j)) (not (runs_in (w.row t) y)) parts.0

  held : HeldByOther w t j q
  held = held_by_other w bound n u v j m q t a from to

  is : is_instead w q y held.number x t ≡ true
  is = and_from (is_holding w q y held.number t) (is_by w (processor_of w y) x t) (holding_now w t j q held) parts.1

  by : (r : RunBy w (processor_of w y) t) × (task_of w r.job ≡ x)
  by = by_is w (processor_of w y) x t parts.1

  other : RunsInstead w t j y
  other = runs_instead w bound n u v j m q y held.number t a from to
      (holding_is w bound n u v j m q y held.number t a to (holding_now w t j q held)) (not-true (runs_in (w.row t) y) both.1)

  may : may_run_instead w.set (task_of w j) (task_of w y) x ≡ true
  may =
      let one : Some other.job ≡ Some by.0.job = sym other.runs ∙ by.0.runs in
      let job : other.job ≡ by.0.job = cc in
      ap (may_run_instead w.set (task_of w j) (task_of w y)) (sym by.1 ∙ ap (task_of w) (sym job)) ∙ other.may

-- Instead of a holder of task y?
abbrev instead_of : Trace → ℕ → ℕ → ℕ → ℕ → ℕ → Bool
instead_of w q i x y t = is_held_by w q y t && is_instead_by w q i x t

abbrev instead_of_job : Trace → ℕ → ℕ → ℕ → ℕ → ℕ → ℕ → ℕ
instead_of_job w q i x y z t = only_if (holder_of w q t == z) (flag (instead_of w q i x y t))

-- A tick at which x runs instead of job z is one of the holding of z's request.
number_term : (w : Trace) (bound : ℕ → ℕ) (n u v j m q x y z k t : ℕ) → Waiting w bound n u v j m q → u ≤ t → t ≤ v
    → only_if (number_of (phase_of w t z) == k) (instead_of_job w q (task_of w j) x y z t) ≤ flag (is_instead w q z k x t)
number_term w bound n u v j m q x y z k t a from to =
    elim (cases_lt 0 (only_if (number_of (phase_of w t z) == k) (instead_of_job w q (task_of w j) x y z t))) [
      | inr none ↦ omega (arith, none)
      | inl some ↦
          let parts : ((number_of (phase_of w t z) == k) ≡ true) × (0 < instead_of_job w q (task_of w j) x y z t) =
          only_if-parts (number_of (phase_of w t z) == k) (instead_of_job w q (task_of w j) x y z t) some in
          let job : ((holder_of w q t == z) ≡ true) × (0 < flag (instead_of w q (task_of w j) x y t)) =
          only_if-parts (holder_of w q t == z) (flag (instead_of w q (task_of w j) x y t)) parts.1 in
          let both : (is_held_by w q y t ≡ true) × (is_instead_by w q (task_of w j) x t ≡ true) =
          and_parts (is_held_by w q y t) (is_instead_by w q (task_of w j) x t)
          (flag-passes (instead_of w q (task_of w j) x y t) job.1) in
          let here : is_instead w q z k x t ≡ true =
          go (instead_by_is w bound n u v j m q x t a from to both.1) (eqb-true (number_of (phase_of w t z)) k parts.0)
          (eqb-true (holder_of w q t) z job.0) in
          let one : flag (is_instead w q z k x t) ≡ 1 = rw here refl in
          omega (
            arith,
            one,
            only_if-at_most (number_of (phase_of w t z) == k) (instead_of_job w q (task_of w j) x y z t),
            only_if-at_most (holder_of w q t == z) (flag (instead_of w q (task_of w j) x y t)),
            flag-at_most (instead_of w q (task_of w j) x y t),
          )
    ] where
      go : InsteadBy w j q x t → number_of (phase_of w t z) ≡ k → holder_of w q t ≡ z → is_instead w q z k x t ≡ true
      go h number job =
          let asks : phase_of w t z ≡ Asking h.held.number q = ap (phase_of w t) (sym job) ∙ h.held.asks in
          let same : h.held.number ≡ k = sym (ap number_of asks) ∙ number in
          ap (λ c. is_instead w q z c x t) (sym same) ∙ ap (λ c. is_instead w q c h.held.number x t) (sym job) ∙ h.is

-- In each holding of a job of y x runs at most one request.
of_job : (w : Trace) (bound : ℕ → ℕ) (n u v j m q x y z span : ℕ) → Waiting w bound n u v j m q → u + span ≤ suc v
    → may_run_instead w.set (task_of w j) y x ≡ true → z < length w.jobs → task_of w z ≡ y
    → sum_below span (λ d. instead_of_job w q (task_of w j) x y z (u + d)) ≤ count_of w.set y q * longest_first w.set x q
of_job w bound n u v j m q x y z span a long may listed task =
    rw task at (by_own_request w span z q (longest_first w.set x q) (λ d. u + d)
    (λ d. instead_of_job w q (task_of w j) x y z (u + d)) (a.lawful.each z listed) (λ d l some. in_request d l some) (λ k. slot k)) where
      in_request : (d : ℕ) → d < span → 0 < instead_of_job w q (task_of w j) x y z (u + d) → (k : ℕ) × (phase_of w (u + d) z ≡ Asking k q)
      in_request d l some =
          let h : HeldByOther w (u + d) j q = held_by_other w bound n u v j m q (u + d) a (omega arith) (omega (arith, l, long)) in
          let parts : ((holder_of w q (u + d) == z) ≡ true) × (0 < flag (instead_of w q (task_of w j) x y (u + d))) =
          only_if-parts (holder_of w q (u + d) == z) (flag (instead_of w q (task_of w j) x y (u + d))) some in
          (h.number, ap (phase_of w (u + d)) (sym (eqb-true (holder_of w q (u + d)) z parts.0)) ∙ h.asks)

      slot : (k : ℕ) → sum_below span (λ d. only_if (number_of (phase_of w (u + d) z) == k) (instead_of_job w q (task_of w j) x y z (u + d)))
          ≤ longest_first w.set x q
      slot k =
          let most : sum_below span (λ d. only_if (number_of (phase_of w (u + d) z) == k) (instead_of_job w q (task_of w j) x y z (u + d)))
          ≤ count_below span (λ d. is_instead w q z k x (u + d)) =
          sum_below-monotone span
          (λ d. only_if (number_of (phase_of w (u + d) z) == k) (instead_of_job w q (task_of w j) x y z (u + d)))
          (λ d. flag (is_instead w q z k x (u + d)))
          (λ d l. number_term w bound n u v j m q x y z k (u + d) a (omega arith) (omega (arith, l, long))) in
          let here : may_run_instead w.set (task_of w j) (task_of w z) x ≡ true =
          ap (λ c. may_run_instead w.set (task_of w j) c x) task ∙ may in
          omega (arith, most, instead_ticks w bound n u v j m q z k x span a long here)

-- And in those of all jobs of y.
of_task : (w : Trace) (bound : ℕ → ℕ) (n u v j m q x y base : ℕ) → Waiting w bound n u v j m q → 0 < base → u + base ≤ v
    → y < length w.set.tasks → may_run_instead w.set (task_of w j) y x ≡ true
    → count_below (suc base) (λ d. instead_of w q (task_of w j) x y (u + d)) ≤ requests_during w.set bound base y q * longest_first w.set x q
of_task w bound n u v j m q x y base a some long l may =
    let paid : count_below (suc base) (λ d. instead_of w q (task_of w j) x y (u + d))
    ≤ jobs_during w.set bound base y * (count_of w.set y q * longest_first w.set x q) =
    paid_in_span w bound u base y (suc base) (count_of w.set y q * longest_first w.set x q) (λ d. holder_of w q (u + d))
    (λ d. flag (instead_of w q (task_of w j) x y (u + d))) a.lawful (a.periods y l) a.ended
    (λ d b passes. holder_early w bound n u v j m q base d y a some long b
    (and_parts (is_held_by w q y (u + d)) (is_instead_by w q (task_of w j) x (u + d))
    (flag-passes (instead_of w q (task_of w j) x y (u + d)) passes)).0)
    (λ z b task. of_job w bound n u v j m q x y z (suc base) a (omega (arith, long)) may b task) in
    let turned : jobs_during w.set bound base y * (count_of w.set y q * longest_first w.set x q)
    ≡ requests_during w.set bound base y q * longest_first w.set x q =
    sym (mul_assoc (jobs_during w.set bound base y) (count_of w.set y q) (longest_first w.set x q))
    ∙ ap (λ c. c * longest_first w.set x q) (mul_comm (jobs_during w.set bound base y) (count_of w.set y q)) in
    omega (arith, paid, turned)

only_if_product : (b : Bool) (m c : ℕ) → only_if b (m * c) ≡ only_if b m * c
only_if_product true m c = refl
only_if_product false m c = omega arith

-- So x runs at most one request in each holding of a higher task in whose place it may.
by_holdings : (w : Trace) (bound : ℕ → ℕ) (n u v j m q x base : ℕ) → Waiting w bound n u v j m q → 0 < base → u + base ≤ v
    → count_below (suc base) (λ d. is_instead_by w q (task_of w j) x (u + d))
    ≤ holdings_beside w.set bound (task_of w j) q base x * longest_first w.set x q
by_holdings w bound n u v j m q x base a some long =
    let each : count_below (suc base) (λ d. is_instead_by w q i x (u + d)) ≤ sum_below (suc base) (λ d. sum_below i (part d)) =
    sum_below-monotone (suc base) (λ d. flag (is_instead_by w q i x (u + d))) (λ d. sum_below i (part d)) (λ d l. term d l) in
    let tasks : sum_below i (λ y. sum_below (suc base) (λ d. part d y))
    ≤ sum_below i (λ y. only_if (may y) (requests_during w.set bound base y q) * longest_first w.set x q) =
    sum_below-monotone i (λ y. sum_below (suc base) (λ d. part d y))
    (λ y. only_if (may y) (requests_during w.set bound base y q) * longest_first w.set x q) (λ y l. by_task y l) in
    omega (
      arith,
      each,
      tasks,
      sum_below-swap (suc base) i part,
      sum_below-times_right i (longest_first w.set x q) (λ y. only_if (may y) (requests_during w.set bound base y q)),
    ) where
      i : ℕ
      i = task_of w j

      may : ℕ → Bool
      may = λ y. may_run_instead w.set i y x

      part : ℕ → ℕ → ℕ
      part = λ d y. only_if (may y) (flag (instead_of w q i x y (u + d)))

      known : i < length w.set.tasks
      known = (a.lawful.each j (active_listed w u j a.active)).task

      term : (d : ℕ) → d < suc base → flag (is_instead_by w q i x (u + d)) ≤ sum_below i (part d)
      term d l = elim (cases_Bool (is_instead_by w q i x (u + d))) [
        | inr off ↦ rw off (omega arith)
        | inl on ↦
            let h : InsteadBy w j q x (u + d) =
            instead_by_is w bound n u v j m q x (u + d) a (omega arith) (omega (arith, l, long)) on in
            let own : is_held_by w q (task_of w (holder_of w q (u + d))) (u + d) ≡ true =
            eq-eqb (task_of w (holder_of w q (u + d))) (task_of w (holder_of w q (u + d))) refl in
            let one : part d (task_of w (holder_of w q (u + d))) ≡ 1 = rw (h.may, own, on) refl in
            omega (
              arith,
              one,
              sum_below-term i (part d) (task_of w (holder_of w q (u + d))) h.higher,
              flag-at_most (is_instead_by w q i x (u + d)),
            )
      ]

      by_task : (y : ℕ) → y < i → sum_below (suc base) (λ d. part d y)
          ≤ only_if (may y) (requests_during w.set bound base y q) * longest_first w.set x q
      by_task y l =
          let sum : sum_below (suc base) (λ d. part d y) ≡ only_if (may y) (count_below (suc base) (λ d. instead_of w q i x y (u + d))) =
          sum_below-only_if (suc base) (may y) (λ d. flag (instead_of w q i x y (u + d))) in
          let rises : only_if (may y) (count_below (suc base) (λ d. instead_of w q i x y (u + d)))
          ≤ only_if (may y) (requests_during w.set bound base y q * longest_first w.set x q) =
          only_if-rises (may y) (count_below (suc base) (λ d. instead_of w q i x y (u + d)))
          (requests_during w.set bound base y q * longest_first w.set x q)
          (λ h. of_task w bound n u v j m q x y base a some long (omega (arith, l, known)) h) in
          omega (arith, sum, rises, only_if_product (may y) (requests_during w.set bound base y q) (longest_first w.set x q))

-- The job that runs on the holder's processor; 0 where none does.
abbrev runner_of : Trace → ℕ → ℕ → ℕ
runner_of w q t = option_map_or (λ y. y) (running_on (w.row t) (processor_of w (holder_of w q t))) 0

runner_is : (w : Trace) (j q x t : ℕ) → (h : InsteadBy w j q x t) → runner_of w q t ≡ h.runner.job
runner_is w j q x t h = ap (λ o. option_map_or (λ y. y) o 0) h.runner.runs

abbrev instead_by_job : Trace → ℕ → ℕ → ℕ → ℕ → ℕ → ℕ
instead_by_job w q i x z t = only_if (runner_of w q t == z) (flag (is_instead_by w q i x t))

-- A tick at which job z of x runs so is one in a request that goes first.
first_term : (w : Trace) (bound : ℕ → ℕ) (n u v j m q x z t : ℕ) → Waiting w bound n u v j m q → u ≤ t → t ≤ v
    → instead_by_job w q (task_of w j) x z t
    ≤ sum_below (length w.set.resources)
    (λ r. only_if (goes_first w.set x r q) (flag (runs_in (w.row t) z && is_asking r (phase_of w t z))))
first_term w bound n u v j m q x z t a from to = elim (cases_lt 0 (instead_by_job w q (task_of w j) x z t)) [
  | inr none ↦ omega (arith, none)
  | inl some ↦
      let parts : ((runner_of w q t == z) ≡ true) × (0 < flag (is_instead_by w q (task_of w j) x t)) =
      only_if-parts (runner_of w q t == z) (flag (is_instead_by w q (task_of w j) x t)) some in
      go (instead_by_is w bound n u v j m q x t a from to (flag-passes (is_instead_by w q (task_of w j) x t) parts.1))
      (eqb-true (runner_of w q t) z parts.0)
] where
  go : InsteadBy w j q x t → runner_of w q t ≡ z
      → instead_by_job w q (task_of w j) x z t
      ≤ sum_below (length w.set.resources)
      (λ r. only_if (goes_first w.set x r q) (flag (runs_in (w.row t) z && is_asking r (phase_of w t z))))
  go h same =
      let r : ℕ = h.runner.resource in
      let job : h.runner.job ≡ z = sym (runner_is w j q x t h) ∙ same in
      let asks : phase_of w t z ≡ Asking h.runner.number r = ap (phase_of w t) (sym job) ∙ h.runner.asks in
      let runs : runs_in (w.row t) z ≡ true =
      ap (runs_in (w.row t)) (sym job) ∙ runs_from (w.row t) (processor_of w (holder_of w q t)) h.runner.job h.runner.runs in
      let both : (runs_in (w.row t) z && is_asking r (phase_of w t z)) ≡ true =
      and_from _ _ runs (asking_is h.runner.number r (phase_of w t z) asks) in
      let whole : only_if (goes_first w.set x r q) (flag (runs_in (w.row t) z && is_asking r (phase_of w t z))) ≡ 1 =
      rw (h.runner.first, both) refl in
      let lawful : IsLawfulJob w.set (job_of w.jobs h.runner.job) =
      a.lawful.each h.runner.job (active_listed w t h.runner.job h.runner.active) in
      omega (
        arith,
        whole,
        sum_below-term (length w.set.resources)
            (λ c. only_if (goes_first w.set x c q) (flag (runs_in (w.row t) z && is_asking c (phase_of w t z)))) r
            (open_resource w.set w t h.runner.job h.runner.number r lawful h.runner.asks),
        only_if-at_most (runner_of w q t == z) (flag (is_instead_by w q (task_of w j) x t)),
        flag-at_most (is_instead_by w q (task_of w j) x t),
      )

-- A job runs in requests of one resource at most as often, and each for as long, as it may.
resource_ticks : (w : Trace) (bound : ℕ → ℕ) (n u v j m q x z r span : ℕ) → Waiting w bound n u v j m q → z < length w.jobs
    → task_of w z ≡ x
    → sum_below span (λ d. only_if (goes_first w.set x r q) (flag (runs_in (w.row (u + d)) z && is_asking r (phase_of w (u + d) z))))
    ≤ only_if (goes_first w.set x r q) (count_of w.set x r * length_of w.set x r)
unfolding executed_in
resource_ticks w bound n u v j m q x z r span a listed task =
    let job : IsLawfulJob w.set (job_of w.jobs z) = a.lawful.each z listed in
    let sum : sum_below span (λ d. only_if (goes_first w.set x r q) (flag (asks (u + d))))
    ≡ only_if (goes_first w.set x r q) (count_below span (λ d. asks (u + d))) =
    sum_below-only_if span (goes_first w.set x r q) (λ d. flag (asks (u + d))) in
    let whole : executed_in (is_asking r) w (u + span) z ≤ number_of_requests (job_of w.jobs z).script r * length_of w.set x r =
    rw task at (asking_at_most w.set w (u + span) r z job) in
    let number : number_of_requests (job_of w.jobs z).script r ≤ count_of w.set x r = rw task at (job.count r) in
    let most : count_below span (λ d. asks (u + d)) ≤ count_of w.set x r * length_of w.set x r =
    omega (arith, whole, mul-le-mul_right (length_of w.set x r) number, count_below-split u span asks) in
    omega (
      arith,
      sum,
      only_if-rises (goes_first w.set x r q) (count_below span (λ d. asks (u + d))) (count_of w.set x r * length_of w.set x r) (λ h. most),
    ) where
      asks : ℕ → Bool
      asks = λ t. runs_in (w.row t) z && is_asking r (phase_of w t z)

job_time : (w : Trace) (bound : ℕ → ℕ) (n u v j m q x z span : ℕ) → Waiting w bound n u v j m q → u + span ≤ suc v → z < length w.jobs
    → task_of w z ≡ x → sum_below span (λ d. instead_by_job w q (task_of w j) x z (u + d)) ≤ time_first w.set x q
job_time w bound n u v j m q x z span a long listed task =
    let each : sum_below span (λ d. instead_by_job w q (task_of w j) x z (u + d))
    ≤ sum_below span (λ d. sum_below (length w.set.resources) (part d)) =
    sum_below-monotone span (λ d. instead_by_job w q (task_of w j) x z (u + d))
    (λ d. sum_below (length w.set.resources) (part d))
    (λ d l. first_term w bound n u v j m q x z (u + d) a (omega arith) (omega (arith, l, long))) in
    let sums : sum_below (length w.set.resources) (λ r. sum_below span (λ d. part d r)) ≤ time_first w.set x q =
    sum_below-monotone (length w.set.resources) (λ r. sum_below span (λ d. part d r))
    (λ r. only_if (goes_first w.set x r q) (count_of w.set x r * length_of w.set x r))
    (λ r l. resource_ticks w bound n u v j m q x z r span a listed task) in
    omega (arith, each, sums, sum_below-swap span (length w.set.resources) part) where
      part : ℕ → ℕ → ℕ
      part = λ d r. only_if (goes_first w.set x r q) (flag (runs_in (w.row (u + d)) z && is_asking r (phase_of w (u + d) z)))

-- So x runs no longer than its jobs' requests that go first.
by_jobs : (w : Trace) (bound : ℕ → ℕ) (n u v j m q x base : ℕ) → Waiting w bound n u v j m q → 0 < base → u + base ≤ v
    → x < length w.set.tasks
    → count_below (suc base) (λ d. is_instead_by w q (task_of w j) x (u + d)) ≤ jobs_during w.set bound base x * time_first w.set x q
by_jobs w bound n u v j m q x base a some long l =
    paid_in_span w bound u base x (suc base) (time_first w.set x q) (λ d. runner_of w q (u + d))
    (λ d. flag (is_instead_by w q (task_of w j) x (u + d))) a.lawful (a.periods x l) a.ended
    (λ d b passes.
    let h : InsteadBy w j q x (u + d) =
    instead_by_is w bound n u v j m q x (u + d) a (omega arith) (omega (arith, b, long))
    (flag-passes (is_instead_by w q (task_of w j) x (u + d)) passes) in
    rw (runner_is w j q x (u + d) h) (active_early w bound n u v j m q base d x h.runner.job h.runner.number h.runner.resource a some long b
    h.runner.active h.runner.asks h.runner.task))
    (λ z b task. job_time w bound n u v j m q x z (suc base) a (omega (arith, long)) b task)

-- Both together.
pub instead_of_higher : (w : Trace) (bound : ℕ → ℕ) (n u v j m q x base : ℕ) → Waiting w bound n u v j m q → 0 < base → u + base ≤ v
    → x < length w.set.tasks
    → count_below (suc base) (λ d. is_instead_by w q (task_of w j) x (u + d)) ≤ ticks_instead w.set bound (task_of w j) q base x
instead_of_higher w bound n u v j m q x base a some long l =
    omega (
      arith,
      by_holdings w bound n u v j m q x base a some long,
      by_jobs w bound n u v j m q x base a some long l,
    )
