-- The row of requests that are spun for, and of lower requests that run. Each request from j's processor pays for one request of the
-- other processor. The lower request that is open is one, of one resource: it runs itself, or spins for one request.
use Rattle.std.proofs.Common.{◌≡◌, ◌⊎◌, ℕ, ◌+◌, ◌*◌, ◌<◌, ◌≤◌, ◌==◌, ◌&&◌, ◌||◌, Bool, true, false, length, refl, sym}
use Rattle.std.proofs.Common.{ap, ◌∙◌, arith, inl, inr, nat_lt}
use Rattle.std.proofs.Math.Nat.{mul_assoc, mul_comm}
use Rattle.std.proofs.lemmas.Bool.{cases_lt, and_from, eq-eqb, eqb-true, lt-ltb, ltb-true}
use Rattle.number_laws.specs.Sums.{sum_below, flag, only_if}
use Rattle.number_laws.specs.Tests.{any_below}
use Rattle.number_laws.proofs.SumLaws.{sum_below-agree, sum_below-monotone, sum_below-plus, sum_below-swap, sum_below-times, sum_below-times_right}
use Rattle.number_laws.proofs.SumLaws.{sum_below-zero, sum_below-only_if, sum_below-none_or_some, only_if-at_most, only_if-true}
use Rattle.number_laws.proofs.OnlyIfLaws.{only_if-nothing}
use Rattle.number_laws.proofs.TestLaws.{any_below-from}
use Rattle.number_laws.proofs.SlotLaws.{sum_below-slots}
use Rattle.sporadic_model.specs.SetDef.{SetDef, task_at}
use Rattle.sporadic_model.specs.Users.{count_of, is_user}
use Rattle.schedule_model.specs.JobDef.{job_of}
use Rattle.schedule_model.specs.LawfulJobs.{IsLawfulJob}
use Rattle.schedule_model.specs.RowDef.{Trace}
use Rattle.schedule_model.specs.Phase.{phase_of}
use Rattle.schedule_model.specs.Phase.Phase.{Asking}
use Rattle.schedule_model.specs.Activity.{task_of, is_active}
use Rattle.schedule_model.specs.Keeping.{KeepsBefore}
use Rattle.schedule_laws.proofs.ActiveJobs.{active_listed, one_active}
use Rattle.schedule_laws.proofs.Segments.{open_user, open_resource}
use Rattle.blocking_columns.specs.Columns.{have_one_processor, is_lower_local}
use Rattle.fragments.specs.Constraints.{ConstraintDef, counting}
use Rattle.blocking_columns.specs.Windows.{jobs_in, requests_in}
use Rattle.charge_laws.specs.Windows.{window_end}
use Rattle.row_laws.specs.Meeting.{TicksMeet}
use Rattle.row_laws.proofs.Brings.{Window, Hit, hit, only_if-parts}
use Rattle.row_laws.proofs.JobRows.{paid_in_window}
use Rattle.row_laws.proofs.SlotRow.{OneRequest, parts_paid}
use Rattle.spin_rules.specs.SpinRules.{spin_rule}
use Rattle.spin_rules.proofs.InRequests.{in_request_from}
use Rattle.spin_charging.specs.SpinCharges.{spin_charge}
use Rattle.spin_charging.specs.SpinPrograms.{is_used_below, higher_requests, upper_requests}
use Rattle.spin_charging.proofs.OneSpin.{lower_one}
use Rattle.spin_charging.proofs.SpinningParts.{Kinds, is_counted, Spins, counted_share, amount, asker_at, shares_of, SpunTick, LowerTick}
use Rattle.spin_charging.proofs.SpinningParts.{tick_is, Asks, asks_where, one_spin, asker_part, spinner_paid}

-- Does a lower task use a resource that passes one of the tests?
abbrev pub has_lower : SetDef → ℕ → Kinds → Bool
has_lower set i k = any_below (length set.resources) (λ q. (k.spun q || k.runs q) && is_used_below set i q)

-- The row of what counts. Lower tasks add one request to those of i and of higher tasks.
abbrev pub counted_row : SetDef → ℕ → Kinds → ConstraintDef
counted_row set i k = counting (is_counted set k) (λ bounds. upper_requests set bounds i k.spun + flag (has_lower set i k))

-- How many requests that pass can a job of x make?
abbrev passing_of : SetDef → Kinds → ℕ → ℕ
passing_of set k x = sum_below (length set.resources) (λ q. only_if (k.spun q) (count_of set x q))

-- What counts while a job of a higher task is in a request, of these while one of task h is, and what counts while one of a lower task
-- is.
abbrev high_part : Trace → ℕ → Kinds → (ℕ → ℕ → ℕ) → ℕ → ℕ
high_part w j k share t = only_if (nat_lt (task_of w (asker_at w j t)) (task_of w j)) (amount w j k share t)

abbrev task_part : Trace → ℕ → Kinds → (ℕ → ℕ → ℕ) → ℕ → ℕ → ℕ
task_part w j k share h t = only_if (task_of w (asker_at w j t) == h) (high_part w j k share t)

abbrev low_part : Trace → ℕ → Kinds → (ℕ → ℕ → ℕ) → ℕ → ℕ
low_part w j k share t = only_if (nat_lt (task_of w j) (task_of w (asker_at w j t))) (amount w j k share t)

-- What a tick that counts says: who is in a request, and that j is active.
record Counts (w : Trace) (j : ℕ) (k : Kinds) (t : ℕ) : Type 0 where
  blocker : ℕ
  kind : SpunTick w j k t blocker ⊎ LowerTick w j k t blocker
  asks : Asks w j k t
  own : is_active w t j ≡ true
  listed : asker_at w j t < length w.jobs

counted_where : (w : Trace) (bound : ℕ → ℕ) (n j : ℕ) (k : Kinds) (s : ℕ) (share : ℕ → ℕ → ℕ) (t : ℕ) → Spins w bound n j k s share
    → t < n → Hit spin_charge w (counted_share w k share) j t → Counts w j k t
counted_where w bound n j k s share t c l h =
    let kind : SpunTick w j k t h.charge.job ⊎ LowerTick w j k t h.charge.job = tick_is w bound n j k s share t c l h in
    let a : Asks w j k t = asks_where w j k t h.charge.job kind in
    record {
      blocker = h.charge.job;
      kind = kind;
      asks = a;
      own = c.window.own t h.charge l h.is_it;
      listed = active_listed w t (asker_at w j t) a.request.active;
    }

counts : (w : Trace) (bound : ℕ → ℕ) (n j : ℕ) (k : Kinds) (s : ℕ) (share : ℕ → ℕ → ℕ) (t : ℕ) → Spins w bound n j k s share
    → t < window_end w bound n j → 0 < amount w j k share t → Counts w j k t
counts w bound n j k s share t c l some =
    counted_where w bound n j k s share t c (omega arith) (hit spin_charge w (counted_share w k share) j t some)

-- What jobs of one higher task spin for is paid by their requests.
near_paid : (w : Trace) (bound : ℕ → ℕ) (n j : ℕ) (k : Kinds) (s : ℕ) (share : ℕ → ℕ → ℕ) (h : ℕ) → Spins w bound n j k s share
    → h < length w.set.tasks → h < task_of w j
    → sum_below (window_end w bound n j) (λ t. task_part w j k share h t)
    ≤ jobs_in w.set bound (task_of w j) h * (s * passing_of w.set k h)
near_paid w bound n j k s share h c there higher =
    paid_in_window spin_charge w bound n j h (s * passing_of w.set k h) (asker_at w j) (λ t. task_part w j k share h t) c.window there
    (λ t l some. active t l some) (λ z b task. each z b task) where
      small : (t : ℕ) → task_part w j k share h t ≤ amount w j k share t
      small t = omega (
        arith,
        only_if-at_most (task_of w (asker_at w j t) == h) (high_part w j k share t),
        only_if-at_most (nat_lt (task_of w (asker_at w j t)) (task_of w j)) (amount w j k share t),
      )

      active : (t : ℕ) → t < window_end w bound n j → 0 < task_part w j k share h t
          → (is_active w t j ≡ true) × (is_active w t (asker_at w j t) ≡ true) × (task_of w (asker_at w j t) ≡ h)
      active t l some =
          let a : Counts w j k t = counts w bound n j k s share t c l (omega (arith, some, small t)) in
          let task : ((task_of w (asker_at w j t) == h) ≡ true) × (0 < high_part w j k share t) =
          only_if-parts (task_of w (asker_at w j t) == h) (high_part w j k share t) some in
          (a.own, a.asks.request.active, eqb-true _ _ task.0)

      each : (z : ℕ) → z < length w.jobs → task_of w z ≡ h
          → sum_below (window_end w bound n j) (λ t. asker_part w j z (λ u. task_part w j k share h u) t) ≤ s * passing_of w.set k h
      each z b task = rw task at (spinner_paid w bound n j k s share (λ u. task_part w j k share h u) z c small b
          (λ lower. omega (arith, lower, task, higher)))

-- A job beside j is of a task that shares its processor, so the requests of others count nothing.
task_paid : (w : Trace) (bound : ℕ → ℕ) (n j : ℕ) (k : Kinds) (s : ℕ) (share : ℕ → ℕ → ℕ) (h : ℕ) → Spins w bound n j k s share
    → h < length w.set.tasks → h < task_of w j
    → sum_below (window_end w bound n j) (λ t. task_part w j k share h t)
    ≤ only_if (have_one_processor w.set h (task_of w j)) (jobs_in w.set bound (task_of w j) h * passing_of w.set k h) * s
task_paid w bound n j k s share h c there higher =
    sum_below-none_or_some (window_end w bound n j)
    (only_if (have_one_processor w.set h (task_of w j)) (jobs_in w.set bound (task_of w j) h * passing_of w.set k h) * s)
    (λ t. task_part w j k share h t) (λ t l some. rw (beside t l some) paid) where
      jobs : ℕ
      jobs = jobs_in w.set bound (task_of w j) h

      paid : sum_below (window_end w bound n j) (λ t. task_part w j k share h t) ≤ jobs * passing_of w.set k h * s
      paid = omega (
        arith,
        near_paid w bound n j k s share h c there higher,
        mul_assoc jobs (passing_of w.set k h) s,
        ap (λ z. jobs * z) (mul_comm s (passing_of w.set k h)),
      )

      beside : (t : ℕ) → t < window_end w bound n j → 0 < task_part w j k share h t → have_one_processor w.set h (task_of w j) ≡ true
      beside t l some =
          let task : ((task_of w (asker_at w j t) == h) ≡ true) × (0 < high_part w j k share t) =
          only_if-parts (task_of w (asker_at w j t) == h) (high_part w j k share t) some in
          let high : _ × (0 < amount w j k share t) =
          only_if-parts (nat_lt (task_of w (asker_at w j t)) (task_of w j)) (amount w j k share t) task.1 in
          let a : Counts w j k t = counts w bound n j k s share t c l high.1 in
          eq-eqb _ _ (ap (λ x. (task_at w.set x).processor) (sym (eqb-true (task_of w (asker_at w j t)) h task.0)) ∙ a.asks.place)

-- The requests of higher tasks, by task and by resource.
by_resource : (m : ℕ) (beside : Bool) (jobs : ℕ) (passes : ℕ → Bool) (counted : ℕ → ℕ)
    → only_if beside (jobs * sum_below m (λ q. only_if (passes q) (counted q)))
    ≡ sum_below m (λ q. only_if (passes q) (only_if beside (counted q * jobs)))
by_resource m true jobs passes counted =
    sym (sum_below-times m jobs (λ q. only_if (passes q) (counted q)))
    ∙ sum_below-agree m (λ q. jobs * only_if (passes q) (counted q)) (λ q. only_if (passes q) (counted q * jobs))
    (λ q l. turned (passes q) (counted q)) where
      turned : (b : Bool) (n : ℕ) → jobs * only_if b n ≡ only_if b (n * jobs)
      turned true n = mul_comm jobs n
      turned false n = omega arith
by_resource m false jobs passes counted =
    sym (sum_below-zero m (λ q. only_if (passes q) 0) (λ q l. only_if-nothing (passes q)))

higher_by_resource : (set : SetDef) (bound : ℕ → ℕ) (i : ℕ) (k : Kinds)
    → sum_below i (λ h. only_if (have_one_processor set h i) (jobs_in set bound i h * passing_of set k h))
    ≡ sum_below (length set.resources) (λ q. only_if (k.spun q) (higher_requests set bound i q))
higher_by_resource set bound i k =
    let m : ℕ = length set.resources in
    let term : ℕ → ℕ → ℕ = λ h q. only_if (have_one_processor set h i) (requests_in set bound i h q) in
    sum_below-agree i (λ h. only_if (have_one_processor set h i) (jobs_in set bound i h * passing_of set k h))
    (λ h. sum_below m (λ q. only_if (k.spun q) (term h q)))
    (λ h l. by_resource m (have_one_processor set h i) (jobs_in set bound i h) k.spun (count_of set h))
    ∙ sum_below-swap i m (λ h q. only_if (k.spun q) (term h q))
    ∙ sum_below-agree m (λ q. sum_below i (λ h. only_if (k.spun q) (term h q))) (λ q. only_if (k.spun q) (higher_requests set bound i q))
    (λ q l. sum_below-only_if i (k.spun q) (λ h. term h q))

-- All that higher tasks spin for is paid by their requests.
high_paid : (w : Trace) (bound : ℕ → ℕ) (n j : ℕ) (k : Kinds) (s : ℕ) (share : ℕ → ℕ → ℕ) → Spins w bound n j k s share
    → sum_below (window_end w bound n j) (λ t. high_part w j k share t)
    ≤ sum_below (length w.set.resources) (λ q. only_if (k.spun q) (higher_requests w.set bound (task_of w j) q)) * s
high_paid w bound n j k s share c =
    let i : ℕ = task_of w j in
    let terms : ℕ → ℕ = λ h. only_if (have_one_processor w.set h i) (jobs_in w.set bound i h * passing_of w.set k h) in
    let parted : sum_below (window_end w bound n j) (λ t. high_part w j k share t)
    ≡ sum_below i (λ h. sum_below (window_end w bound n j) (λ t. task_part w j k share h t)) =
    sum_below-slots (window_end w bound n j) i (λ t. task_of w (asker_at w j t)) (λ t. high_part w j k share t)
    (λ t l some. ltb-true _ _ (only_if-parts (nat_lt (task_of w (asker_at w j t)) i) (amount w j k share t) some).0) in
    let each : sum_below i (λ h. sum_below (window_end w bound n j) (λ t. task_part w j k share h t)) ≤ sum_below i (λ h. terms h * s) =
    sum_below-monotone i _ _ (λ h l. task_paid w bound n j k s share h c (omega (arith, l, own)) l) in
    let whole : sum_below i (λ h. terms h * s) ≡ sum_below i terms * s = sum_below-times_right i s terms in
    let turned : sum_below i terms * s
    ≡ sum_below (length w.set.resources) (λ q. only_if (k.spun q) (higher_requests w.set bound i q)) * s =
    ap (λ z. z * s) (higher_by_resource w.set bound i k) in
    omega (arith, parted, each, whole, turned) where
      own : task_of w j < length w.set.tasks
      own = (c.window.lawful.each j c.window.listed).task

-- While a job of a lower task is in a request, what is charged is one request.
low_one : (w : Trace) (bound : ℕ → ℕ) (n j : ℕ) (k : Kinds) (s : ℕ) (share : ℕ → ℕ → ℕ) (u v y z : ℕ) → Spins w bound n j k s share
    → u ≤ v → v < n → is_active w u j ≡ true → is_active w v j ≡ true → task_of w j < task_of w (asker_at w j v)
    → SpunTick w j k u y ⊎ LowerTick w j k u y → SpunTick w j k v z ⊎ LowerTick w j k v z → OneRequest w u v y z
low_one w bound n j k s share u v y z c order l early late lower first second = by_kinds first second where
  a : Asks w j k u
  a = asks_where w j k u y first

  b : Asks w j k v
  b = asks_where w j k v z second

  askers : OneRequest w u v (asker_at w j u) (asker_at w j v)
  askers = lower_one w n u v j (asker_at w j u) (asker_at w j v) c.window.lawful c.keeps order l early late
      (in_request_from w u (asker_at w j u) a.request.number a.request.resource a.request.active a.request.phase)
      (in_request_from w v (asker_at w j v) b.request.number b.request.resource b.request.active b.request.phase) a.place b.place lower

  -- the request of the one is that of the other, so it is of one resource
  same : (m p q r : ℕ) → phase_of w u (asker_at w j u) ≡ Asking m p → phase_of w v (asker_at w j v) ≡ Asking q r → p ≡ r
  same m p q r e f = let x : Asking m p ≡ Asking q r = sym e ∙ askers.phase ∙ f in cc

  by_kinds : SpunTick w j k u y ⊎ LowerTick w j k u y → SpunTick w j k v z ⊎ LowerTick w j k v z → OneRequest w u v y z
  by_kinds (inl d) (inl e) =
      one_spin w bound n j k s share u v y z e.spun.number e.spun.resource e.spun.resource c order l d e askers.job
      (ap (phase_of w u) (sym askers.job) ∙ askers.phase ∙ e.spun.request) e.spun.request
  by_kinds (inl d) (inr e) = absurd (c.apart d.spun.resource d.passes
      (ap k.runs (same _ _ _ _ d.spun.request (ap (phase_of w v) e.asker ∙ e.holder.phase)) ∙ e.passes))
  by_kinds (inr d) (inl e) = absurd (c.apart e.spun.resource e.passes
      (ap k.runs (sym (same _ _ _ _ (ap (phase_of w u) d.asker ∙ d.holder.phase) e.spun.request)) ∙ d.passes))
  by_kinds (inr d) (inr e) = record {
    job = sym d.asker ∙ askers.job ∙ e.asker;
    phase = ap (phase_of w u) (sym d.asker) ∙ askers.phase ∙ ap (phase_of w v) e.asker;
  }

-- So what is charged while one of a lower task is in a request is one request, where one of them uses a resource that passes.
low_paid : (w : Trace) (bound : ℕ → ℕ) (n j : ℕ) (k : Kinds) (s : ℕ) (share : ℕ → ℕ → ℕ) → Spins w bound n j k s share
    → sum_below (window_end w bound n j) (λ t. low_part w j k share t) ≤ flag (has_lower w.set (task_of w j) k) * s
low_paid w bound n j k s share c =
    omega (
      arith,
      parts_paid spin_charge w bound n j 1 s share (counted_share w k share) (λ t. low_part w j k share t) (λ t. 0)
          (λ m. has_lower w.set (task_of w j) k) c.window
          (record {
            below = λ t l. only_if-at_most (nat_lt (task_of w j) (task_of w (asker_at w j t))) (amount w j k share t);
            within = λ t l some h. omega arith;
            passes = λ t l some h. used t (counted_where w bound n j k s share t c (omega arith) h) (lower t some);
            one = λ u v order l first second a b same.
                low_one w bound n j k s share u v a.charge.job b.charge.job c order (omega arith)
                (c.window.own u a.charge (omega arith) a.is_it) (c.window.own v b.charge (omega arith) b.is_it) (lower v second)
                (tick_is w bound n j k s share u c (omega arith) a) (tick_is w bound n j k s share v c (omega arith) b);
          })
          (shares_of w bound n j k s share c),
    ) where
      lower : (t : ℕ) → 0 < low_part w j k share t → task_of w j < task_of w (asker_at w j t)
      lower t some =
          ltb-true _ _ (only_if-parts (nat_lt (task_of w j) (task_of w (asker_at w j t))) (amount w j k share t) some).0

      used : (t : ℕ) → Counts w j k t → task_of w j < task_of w (asker_at w j t) → has_lower w.set (task_of w j) k ≡ true
      used t a below =
          let x : ℕ = task_of w (asker_at w j t) in
          let q : ℕ = a.asks.request.resource in
          let m : ℕ = a.asks.request.number in
          let job : IsLawfulJob w.set (job_of w.jobs (asker_at w j t)) = c.window.lawful.each (asker_at w j t) a.listed in
          let user : is_used_below w.set (task_of w j) q ≡ true =
          any_below-from (length w.set.tasks) (λ y. is_lower_local w.set (task_of w j) y && is_user w.set q y) x job.task
          (and_from _ _ (and_from _ _ (lt-ltb _ _ below) (eq-eqb _ _ a.asks.place))
          (open_user w.set w t (asker_at w j t) m q job a.asks.request.phase)) in
          any_below-from (length w.set.resources) (λ r. (k.spun r || k.runs r) && is_used_below w.set (task_of w j) r) q
          (open_resource w.set w t (asker_at w j t) m q job a.asks.request.phase) (and_from _ _ a.asks.passes user)

-- Each tick that counts is one of the three.
three_parts : (w : Trace) (bound : ℕ → ℕ) (n j : ℕ) (k : Kinds) (s : ℕ) (share : ℕ → ℕ → ℕ) (t : ℕ) → Spins w bound n j k s share
    → t < window_end w bound n j
    → amount w j k share t ≤ asker_part w j j (λ u. amount w j k share u) t + (high_part w j k share t + low_part w j k share t)
three_parts w bound n j k s share t c l = elim (cases_lt 0 (amount w j k share t)) [
  | inr none ↦ omega arith
  | inl some ↦ by_task (counts w bound n j k s share t c l some)
] where
  by_task : Counts w j k t
      → amount w j k share t ≤ asker_part w j j (λ u. amount w j k share u) t + (high_part w j k share t + low_part w j k share t)
  by_task a = elim (cases_lt (task_of w (asker_at w j t)) (task_of w j)) [
    | inl higher ↦ omega (
      arith,
      only_if-true (nat_lt (task_of w (asker_at w j t)) (task_of w j)) (amount w j k share t) (lt-ltb _ _ higher),
    )
    | inr rest ↦ elim (cases_lt (task_of w j) (task_of w (asker_at w j t))) [
      | inl lower ↦ omega (
        arith,
        only_if-true (nat_lt (task_of w j) (task_of w (asker_at w j t))) (amount w j k share t) (lt-ltb _ _ lower),
      )
      | inr equal ↦
          let same : asker_at w j t ≡ j =
          one_active w t (asker_at w j t) j a.asks.request.active a.own (omega (arith, rest, equal)) in
          omega (arith, only_if-true (asker_at w j t == j) (amount w j k share t) (eq-eqb _ _ same))
    ]
  ]

-- The requests of the job itself and those of higher tasks, together.
upper_parts : (set : SetDef) (bound : ℕ → ℕ) (i : ℕ) (k : Kinds)
    → upper_requests set bound i k.spun
    ≡ passing_of set k i + sum_below (length set.resources) (λ q. only_if (k.spun q) (higher_requests set bound i q))
upper_parts set bound i k =
    sum_below-agree (length set.resources) (λ q. only_if (k.spun q) (count_of set i q + higher_requests set bound i q))
    (λ q. only_if (k.spun q) (count_of set i q) + only_if (k.spun q) (higher_requests set bound i q))
    (λ q l. parted (k.spun q) (count_of set i q) (higher_requests set bound i q))
    ∙ sum_below-plus (length set.resources) (λ q. only_if (k.spun q) (count_of set i q))
    (λ q. only_if (k.spun q) (higher_requests set bound i q)) where
      parted : (b : Bool) (x y : ℕ) → only_if b (x + y) ≡ only_if b x + only_if b y
      parted true x y = refl
      parted false x y = omega arith

-- The row is met.
pub counted_row_met : (w : Trace) (bound : ℕ → ℕ) (n j : ℕ) (k : Kinds) → Window spin_charge w bound n j → KeepsBefore spin_rule w n
    → ((q : ℕ) → k.spun q ≡ true → k.runs q ≡ true → ⊥) → TicksMeet spin_charge w bound n j (counted_row w.set (task_of w j) k)
counted_row_met w bound n j k window keeps apart s share fair =
    let own : sum_below e (λ t. asker_part w j j (λ u. amount w j k share u) t) ≤ s * passing_of w.set k i =
    spinner_paid w bound n j k s share (λ u. amount w j k share u) j c (λ t. omega arith) window.listed (λ less. omega arith) in
    let most : sum_below e (λ t. amount w j k share t)
    ≤ sum_below e (λ t. asker_part w j j (λ u. amount w j k share u) t + (high_part w j k share t + low_part w j k share t)) =
    sum_below-monotone e _ _ (λ t l. three_parts w bound n j k s share t c l) in
    let two : sum_below e
    (λ t. asker_part w j j (λ u. amount w j k share u) t + (high_part w j k share t + low_part w j k share t))
    ≡ sum_below e (λ t. asker_part w j j (λ u. amount w j k share u) t)
    + sum_below e (λ t. high_part w j k share t + low_part w j k share t) =
    sum_below-plus e (λ t. asker_part w j j (λ u. amount w j k share u) t) (λ t. high_part w j k share t + low_part w j k share t) in
    let three : sum_below e (λ t. high_part w j k share t + low_part w j k share t)
    ≡ sum_below e (λ t. high_part w j k share t) + sum_below e (λ t. low_part w j k share t) =
    sum_below-plus e (λ t. high_part w j k share t) (λ t. low_part w j k share t) in
    limit_shared (passing_of w.set k i) higher (flag (has_lower w.set i k)) (upper_requests w.set bound i k.spun) s
    (sum_below e (λ t. amount w j k share t)) (upper_parts w.set bound i k)
    (omega (
      arith,
      own,
      most,
      two,
      three,
      mul_comm s (passing_of w.set k i),
      high_paid w bound n j k s share c,
      low_paid w bound n j k s share c,
    )) where
      c : Spins w bound n j k s share
      c = record { window = window; keeps = keeps; apart = apart; fair = fair }

      e : ℕ
      e = window_end w bound n j

      i : ℕ
      i = task_of w j

      higher : ℕ
      higher = sum_below (length w.set.resources) (λ q. only_if (k.spun q) (higher_requests w.set bound (task_of w j) q))

      limit_shared : (a b d g s m : ℕ) → g ≡ a + b → m ≤ a * s + (b * s + d * s) → m ≤ s * (g + d)
      limit_shared a b d g s m both l = rw both (omega (arith, l, mul_comm s (a + b + d)))
