-- Row of windows, under DPCP: what a higher task's requests bring while a job waits at their home, they bring within the windows of
-- the job's requests there.
use Rattle.std.proofs.Common.{◌≡◌, ℕ, ◌+◌, ◌*◌, ◌<◌, ◌≤◌, ◌==◌, ◌&&◌, not, Bool, true, false, length, List, get_or, refl, sym, ap}
use Rattle.std.proofs.Common.{◌∙◌, arith, inl, inr, Option, Some, None, min}
use Rattle.std.proofs.Math.Nat.{mul_assoc, mul_comm, mul-le-mul_left}
use Rattle.std.proofs.lemmas.Bool.{cases_lt, cases_Bool, and_parts, and_from, eq-eqb, eqb-true, not-true}
use Rattle.number_laws.specs.Sums.{sum_below, flag, only_if}
use Rattle.number_laws.proofs.SumLaws.{sum_below-monotone, sum_below-agree, sum_below-times, sum_below-none_or_some, only_if-at_most}
use Rattle.number_laws.proofs.SlotLaws.{sum_below-slots}
use Rattle.sporadic_model.specs.SetDef.{task_at, jobs_within}
use Rattle.sporadic_model.specs.Users.{count_of, length_of}
use Rattle.schedule_model.specs.JobDef.{SegmentDef, job_of, no_segment}
use Rattle.schedule_model.specs.LawfulJobs.{IsLawfulJob}
use Rattle.schedule_model.specs.RowDef.{Trace}
use Rattle.schedule_model.specs.Phase.{phase_of}
use Rattle.schedule_model.specs.Phase.Phase.{Asking}
use Rattle.schedule_model.specs.Activity.{task_of, is_active, issue_tick_of}
use Rattle.schedule_model.specs.DpcpRules.{home_of}
use Rattle.schedule_model.specs.Protocols.{dpcp_rule}
use Rattle.schedule_model.specs.Keeping.{KeepsBefore}
use Rattle.schedule_laws.proofs.Holders.{open_active}
use Rattle.schedule_laws.proofs.Issues.{issue_at_most, issue_no_later, open_at_issue}
use Rattle.schedule_laws.proofs.Segments.{RequestAt, open_segment, open_resource, open_user, asks_some}
use Rattle.schedule_laws.proofs.Ticks.{one_resource}
use Rattle.blocking_columns.specs.ColumnDef.{ColumnDef, is_preemption}
use Rattle.blocking_columns.specs.Windows.{requests_in}
use Rattle.charge_laws.specs.Charges.{dpcp_charge}
use Rattle.charge_laws.specs.Windows.{bound_end, window_end, EndedWithin}
use Rattle.charge_laws.proofs.DpcpCharging.{HomeBlocked, dpcp_reason}
use Rattle.row_laws.specs.Meeting.{brought, brings, TicksMeet}
use Rattle.row_laws.proofs.Brings.{Window, Hit, hit, column_with, blocker, blocker_is}
use Rattle.row_laws.proofs.Brings.{flag_times-at_most, flag_times-passes, only_if-parts}
use Rattle.row_laws.proofs.HomeRow.{home_blocked, runner_resource}
use Rattle.row_laws.proofs.JobRows.{ActiveIn, paid_in_span, HitJob, hit_job, job_requests, product_turned, request_row_met}
use Rattle.row_laws.proofs.OwnWeights.{weighed, own_weights}
use Rattle.row_laws.proofs.Numbers.{number_of}
use Rattle.window_laws.specs.Windows.{window_of}
use Rattle.window_laws.specs.WindowRows.{meets_there, lacks_window, requests_there, requests_met, window_row}
use Rattle.window_laws.proofs.Rising.{window_there, lacking}
use Rattle.window_laws.proofs.OpenRequests.{Open}
use Rattle.window_laws.proofs.Ending.{ends_in_window}

-- What the row counts of a column, where the column has this share.
abbrev counted : ℕ → ℕ → (ℕ → ℕ → ℕ) → ColumnDef → ℕ
counted x p share c = flag (((c.task == x) && (c.resource == p)) && not (is_preemption c.class)) * share c.task c.resource

-- A tick that the row counts: it is charged to x's request of p, which runs at the home of what the job requests.
record Met (w : Trace) (j x p t : ℕ) (share : ℕ → ℕ → ℕ) (h : Hit dpcp_charge w (counted x p share) j t) : Type 0 where
  task : task_of w h.charge.job ≡ x
  resource : h.resource ≡ p
  most : counted x p share (column_with w h.charge h.resource) ≤ share x p
  blocked : HomeBlocked w t j h.charge.job
  home : home_of w blocked.resource ≡ home_of w p

met_is : (w : Trace) (n j x p t : ℕ) (share : ℕ → ℕ → ℕ) → KeepsBefore dpcp_rule w n → t < n
    → (h : Hit dpcp_charge w (counted x p share) j t) → Met w j x p t share h
met_is w n j x p t share keeps l h = record {
  task = task;
  resource = resource;
  most = omega (
    arith,
    flag_times-at_most test (share (task_of w h.charge.job) h.resource),
    shares,
  );
  blocked = blocked;
  home = sym blocked.runner.home ∙ ap (home_of w) (same ∙ resource);
} where
  test : Bool
  test = ((task_of w h.charge.job == x) && (h.resource == p)) && not (is_preemption h.charge.class)

  parts : (((task_of w h.charge.job == x) && (h.resource == p)) ≡ true) × (not (is_preemption h.charge.class) ≡ true)
  parts = and_parts _ _ (flag_times-passes test (share (task_of w h.charge.job) h.resource) h.some)

  both : ((task_of w h.charge.job == x) ≡ true) × ((h.resource == p) ≡ true)
  both = and_parts _ _ parts.0

  task : task_of w h.charge.job ≡ x
  task = eqb-true _ _ both.0

  resource : h.resource ≡ p
  resource = eqb-true _ _ both.1

  shares : share (task_of w h.charge.job) h.resource ≡ share x p
  shares = rw (task, resource) refl

  blocked : HomeBlocked w t j h.charge.job
  blocked = home_blocked w t j h.charge.job h.charge.class (not-true _ parts.1) (dpcp_reason w t j h.charge (keeps t l) h.is_it)

  same : blocked.runner.resource ≡ h.resource
  same = runner_resource w t (home_of w blocked.resource) h.charge.job h.number h.resource blocked.runner h.request

-- The premises of the row, all together.
record Premises (w : Trace) (bound : ℕ → ℕ) (n j x : ℕ) : Type 0 where
  window : Window dpcp_charge w bound n j
  keeps : KeepsBefore dpcp_rule w n
  ended : EndedWithin w bound (bound_end w bound j) n
  higher : x < task_of w j
  known : x < length w.set.tasks

-- At a tick of the window that is counted, and is in the job's request number m, that request is open since its issue.
opened : (w : Trace) (bound : ℕ → ℕ) (n j x v t m q r : ℕ) → Premises w bound n j x → v < window_end w bound n j
    → t < window_end w bound n j
    → is_active w v j ≡ true → phase_of w v j ≡ Asking m q → phase_of w t j ≡ Asking m r
    → Open w bound n (issue_tick_of w v j) t j m q
opened w bound n j x v t m q r a within l active here there =
    let u : ℕ = issue_tick_of w v j in
    let early : u ≤ v = issue_at_most w v j in
    let job : IsLawfulJob w.set (job_of w.jobs j) = a.window.lawful.each j a.window.listed in
    let same : q ≡ r = one_resource w v t j m q r here there in
    let issued : phase_of w u j ≡ Asking m q = open_at_issue w v j m q here in
    record {
      lawful = a.window.lawful;
      keeps = a.keeps;
      periods = a.window.periods;
      ended = λ y listed passed. a.ended y listed (omega (arith, passed, early, within)) (omega (arith, passed, early, within));
      order = issue_no_later w t v j m r q there here;
      within = omega (arith, l);
      active = open_active w n u j m q a.window.active (omega (arith, early, within)) job.script issued;
      early = issued;
      late = there ∙ ap (Asking m) (sym same);
    }

-- The ticks in one request of the job bring at most a whole for each request that may run within its window.
request_met : (w : Trace) (bound : ℕ → ℕ) (n j x p s m v q b : ℕ) (share : ℕ → ℕ → ℕ) → Premises w bound n j x
    → share x p * length_of w.set x p ≤ s
    → v < window_end w bound n j → is_active w v j ≡ true → phase_of w v j ≡ Asking m q
    → window_of w.set bound (task_of w j) q ≡ Some b
    → sum_below (window_end w bound n j)
    (λ t. only_if (number_of (phase_of w t j) == m) (brings dpcp_charge w (counted x p share) j t))
    ≤ s * requests_there w.set bound (task_of w j) x p q
request_met w bound n j x p s m v q b share a fair within active here window =
    let now : Open w bound n u v j m q = opened w bound n j x v v m q q a within within active here here in
    let all : sum_below e term
    ≤ jobs_within b (bound x + (task_at w.set x).jitter) (task_at w.set x).period * (count_of w.set x p * s) =
    paid_in_span w bound u b x e (count_of w.set x p * s) (blocker dpcp_charge w j) term a.window.lawful (a.window.periods x a.known)
    now.ended (λ t l some. inside t l some) (λ y listed task. job_brings y listed task) in
    rw window (omega (
      arith,
      all,
      product_turned (jobs_within b (bound x + (task_at w.set x).jitter) (task_at w.set x).period) (count_of w.set x p) s,
    )) where
      e : ℕ
      e = window_end w bound n j

      u : ℕ
      u = issue_tick_of w v j

      f : ColumnDef → ℕ
      f = counted x p share

      term : ℕ → ℕ
      term = λ t. only_if (number_of (phase_of w t j) == m) (brings dpcp_charge w f j t)

      inside : (t : ℕ) → t < e → 0 < term t → ActiveIn w u (u + b) x (blocker dpcp_charge w j t)
      inside t l some =
          let parts : ((number_of (phase_of w t j) == m) ≡ true) × (0 < brings dpcp_charge w f j t) =
          only_if-parts (number_of (phase_of w t j) == m) (brings dpcp_charge w f j t) some in
          let h : Hit dpcp_charge w f j t = hit dpcp_charge w f j t parts.1 in
          let met : Met w j x p t share h = met_is w n j x p t share a.keeps (omega (arith, l)) h in
          let number : met.blocked.number ≡ m = sym (ap number_of met.blocked.request) ∙ eqb-true _ _ parts.0 in
          let there : phase_of w t j ≡ Asking m met.blocked.resource =
          met.blocked.request ∙ ap (λ k. Asking k met.blocked.resource) number in
          let stays : Open w bound n u t j m q = opened w bound n j x v t m q met.blocked.resource a within l active here there in
          let at : HitJob dpcp_charge w bound j t h.charge.job = hit_job dpcp_charge w bound n j t f a.window l h in
          rw (blocker_is dpcp_charge w f j t h) (record {
            tick = t;
            active = at.active;
            task = met.task;
            from = stays.order;
            before = ends_in_window w bound n u t j m q b stays window;
          })

      job_brings : (y : ℕ) → y < length w.jobs → task_of w y ≡ x
          → sum_below e (λ t. only_if (blocker dpcp_charge w j t == y) (term t)) ≤ count_of w.set x p * s
      job_brings y listed task =
          let less : sum_below e (λ t. only_if (blocker dpcp_charge w j t == y) (term t))
          ≤ sum_below e (λ t. only_if (blocker dpcp_charge w j t == y) (brings dpcp_charge w f j t)) =
          sum_below-monotone e (λ t. only_if (blocker dpcp_charge w j t == y) (term t))
          (λ t. only_if (blocker dpcp_charge w j t == y) (brings dpcp_charge w f j t))
          (λ t l. within_term (blocker dpcp_charge w j t == y) (number_of (phase_of w t j) == m) (brings dpcp_charge w f j t)) in
          omega (
            arith,
            less,
            job_requests dpcp_charge w bound n j x p y s (share x p) f a.window listed task fair (λ t l h.
                let met : Met w j x p t share h = met_is w n j x p t share a.keeps (omega (arith, l)) h in (met.resource, met.most)),
          ) where
            within_term : (c d : Bool) (z : ℕ) → only_if c (only_if d z) ≤ only_if c z
            within_term true d z = only_if-at_most d z
            within_term false d z = omega arith

-- A factor under a test, and one before the whole.
factors : (b : Bool) (c d s : ℕ) → c * (s * only_if b d) ≡ s * only_if b (c * d)
factors true c d s = sym (mul_assoc c s d) ∙ ap (λ z. z * d) (mul_comm c s) ∙ mul_assoc s c d
factors false c d s =
    let one : s * 0 ≡ 0 = omega arith in
    let two : c * 0 ≡ 0 = omega arith in
    ap (λ z. c * z) one ∙ two ∙ sym one

-- Where no window is lacking, what the row counts is at most what may run within the windows.
windows_met : (w : Trace) (bound : ℕ → ℕ) (n j x p s : ℕ) (share : ℕ → ℕ → ℕ) → Premises w bound n j x
    → share x p * length_of w.set x p ≤ s → lacks_window w.set bound (task_of w j) p ≡ false
    → sum_below (window_end w bound n j) (λ t. brings dpcp_charge w (counted x p share) j t)
    ≤ s * requests_met w.set bound (task_of w j) x p
windows_met w bound n j x p s share a fair none =
    let slots : sum_below e (λ t. brings dpcp_charge w f j t) ≡ sum_below (length script) (λ m. sum_below e (part m)) =
    sum_below-slots e (length script) slot (λ t. brings dpcp_charge w f j t) (λ t l some. in_script t l (hit dpcp_charge w f j t some)) in
    let each : sum_below (length script) (λ m. sum_below e (part m))
    ≤ sum_below (length script) (λ m. weighed weight (get_or script m no_segment)) =
    sum_below-monotone (length script) (λ m. sum_below e (part m)) (λ m. weighed weight (get_or script m no_segment))
    (λ m l. by_request m) in
    let own : sum_below (length script) (λ m. weighed weight (get_or script m no_segment))
    ≤ sum_below (length w.set.resources) (λ q. count_of w.set i q * weight q) =
    own_weights w.set weight (job_of w.jobs j) job in
    let terms : sum_below (length w.set.resources) (λ q. count_of w.set i q * weight q)
    ≡ sum_below (length w.set.resources) (λ q. s * only_if (meets_there w.set i p q) (count_of w.set i q * there q)) =
    sum_below-agree (length w.set.resources) (λ q. count_of w.set i q * weight q)
    (λ q. s * only_if (meets_there w.set i p q) (count_of w.set i q * there q))
    (λ q l. factors (meets_there w.set i p q) (count_of w.set i q) (there q) s) in
    omega (
      arith,
      slots,
      each,
      own,
      terms,
      sum_below-times (length w.set.resources) s (λ q. only_if (meets_there w.set i p q) (count_of w.set i q * there q)),
    ) where
      i : ℕ
      i = task_of w j

      e : ℕ
      e = window_end w bound n j

      f : ColumnDef → ℕ
      f = counted x p share

      script : List SegmentDef
      script = (job_of w.jobs j).script

      job : IsLawfulJob w.set (job_of w.jobs j)
      job = a.window.lawful.each j a.window.listed

      slot : ℕ → ℕ
      slot = λ t. number_of (phase_of w t j)

      part : ℕ → ℕ → ℕ
      part = λ m t. only_if (slot t == m) (brings dpcp_charge w f j t)

      there : ℕ → ℕ
      there = requests_there w.set bound i x p

      weight : ℕ → ℕ
      weight = λ q. s * only_if (meets_there w.set i p q) (there q)

      in_script : (t : ℕ) → t < e → Hit dpcp_charge w f j t → slot t < length script
      in_script t l h =
          let met : Met w j x p t share h = met_is w n j x p t share a.keeps (omega (arith, l)) h in
          rw met.blocked.request ((open_segment w t j met.blocked.number met.blocked.resource met.blocked.request).within)

      by_tick : (m v : ℕ) → v < e → 0 < part m v → sum_below e (part m) ≤ weighed weight (get_or script m no_segment)
      by_tick m v l some =
          let parts : ((slot v == m) ≡ true) × (0 < brings dpcp_charge w f j v) =
          only_if-parts (slot v == m) (brings dpcp_charge w f j v) some in
          let h : Hit dpcp_charge w f j v = hit dpcp_charge w f j v parts.1 in
          let met : Met w j x p v share h = met_is w n j x p v share a.keeps (omega (arith, l)) h in
          let q : ℕ = met.blocked.resource in
          let number : met.blocked.number ≡ m = sym (ap number_of met.blocked.request) ∙ eqb-true _ _ parts.0 in
          let here : phase_of w v j ≡ Asking m q = met.blocked.request ∙ ap (λ k. Asking k q) number in
          let meets : meets_there w.set i p q ≡ true =
          and_from _ _ (open_user w.set w v j m q job here) (eq-eqb (home_of w q) (home_of w p) met.home) in
          let window : (b : ℕ) × (window_of w.set bound i q ≡ Some b) =
          window_there w.set bound i p q (open_resource w.set w v j m q job here) none meets in
          let most : sum_below e (part m) ≤ s * there q =
          request_met w bound n j x p s m v q window.0 share a fair l met.blocked.active here window.1 in
          let at : RequestAt script m q = open_segment w v j m q here in
          let asks : (z : ℕ) × ((get_or script m no_segment).request ≡ Some (q, z)) =
          asks_some q (get_or script m no_segment) at.asks in
          let weighs : weighed weight (get_or script m no_segment) ≡ s * there q = rw (asks.1, meets) refl in
          omega (arith, most, weighs)

      by_request : (m : ℕ) → sum_below e (part m) ≤ weighed weight (get_or script m no_segment)
      by_request m =
          sum_below-none_or_some e (weighed weight (get_or script m no_segment)) (part m) (λ v l some. by_tick m v l some)

-- What it counts is no more than the row of these requests counts.
counted_less : (w : Trace) (j x p t : ℕ) (share : ℕ → ℕ → ℕ)
    → brings dpcp_charge w (counted x p share) j t
    ≤ brings dpcp_charge w (λ c. flag ((c.task == x) && (c.resource == p)) * share c.task c.resource) j t
counted_less w j x p t share = go _ where
  flags : (b c : Bool) (z : ℕ) → flag (b && c) * z ≤ flag b * z
  flags true c z = omega (arith, flag_times-at_most c z)
  flags false c z = omega arith

  go : (o : Option ColumnDef)
      → brought (counted x p share) o ≤ brought (λ c. flag ((c.task == x) && (c.resource == p)) * share c.task c.resource) o
  go None = omega arith
  go (Some c) = flags ((c.task == x) && (c.resource == p)) (not (is_preemption c.class)) (share c.task c.resource)

-- The row of windows.
pub window_row_met : (w : Trace) (bound : ℕ → ℕ) (n j x p : ℕ) → Window dpcp_charge w bound n j → KeepsBefore dpcp_rule w n
    → EndedWithin w bound (bound_end w bound j) n → x < task_of w j
    → TicksMeet dpcp_charge w bound n j (window_row w.set (task_of w j) x p)
window_row_met w bound n j x p window keeps ended higher s share fair = elim (cases_Bool (lacks_window w.set bound (task_of w j) p)) [
  | inl lacks ↦ lesser (requests_in w.set bound (task_of w j) x p) (requests_met w.set bound (task_of w j) x p) requests
      (omega (arith, requests, mul-le-mul_left s (lacking w.set bound (task_of w j) x p lacks)))
  | inr none ↦ lesser (requests_in w.set bound (task_of w j) x p) (requests_met w.set bound (task_of w j) x p) requests
      (windows_met w bound n j x p s share a (fair x p) none)
] where
  ticks : ℕ
  ticks = sum_below (window_end w bound n j) (λ t. brings dpcp_charge w (counted x p share) j t)

  job : IsLawfulJob w.set (job_of w.jobs j)
  job = window.lawful.each j window.listed

  a : Premises w bound n j x
  a = record { window = window; keeps = keeps; ended = ended; higher = higher; known = omega (arith, higher, job.task) }

  requests : ticks ≤ s * requests_in w.set bound (task_of w j) x p
  requests = omega (
    arith,
    sum_below-monotone (window_end w bound n j) (λ t. brings dpcp_charge w (counted x p share) j t)
        (λ t. brings dpcp_charge w (λ c. flag ((c.task == x) && (c.resource == p)) * share c.task c.resource) j t)
        (λ t l. counted_less w j x p t share),
    request_row_met dpcp_charge w bound n j x p window a.known s share fair,
  )

  lesser : (c d : ℕ) → ticks ≤ s * c → ticks ≤ s * d → ticks ≤ s * min c d
  lesser c d f g = elim (cases_lt c d) [
    | inl less ↦ let e : min c d ≡ c = omega arith in rw e f
    | inr most ↦ let e : min c d ≡ d = omega arith in rw e g
  ]
