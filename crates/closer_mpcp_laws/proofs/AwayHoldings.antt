-- The row of away holdings. While job j waits for one request, x runs a Local tick between two of its own that are charged. Then no job of
-- x's processor holds what j waits for, so a job of another one does, by another holding each time.
use Rattle.std.proofs.Common.{◌≡◌, ℕ, suc, ◌+◌, ◌*◌, ◌<◌, ◌≤◌, ◌==◌, ◌&&◌, not, Bool, true, false, length, refl, sym, ap, ◌∙◌}
use Rattle.std.proofs.Common.{zero, arith, inl, inr, Some, nat_lt, if◌then◌else◌}
use Rattle.std.specs.Option.{option_map_or}
use Rattle.std.proofs.Math.Nat.{mul_comm, mul-add, mul-le-mul_left}
use Rattle.std.proofs.lemmas.Bool.{cases_lt, cases_Bool, both_ways, and_parts, and_from, eqb-true, eq-eqb, ltb-true, ltb-false, not-true}
use Rattle.std.proofs.lemmas.Bool.{not_from_false}
use Rattle.number_laws.specs.Sums.{sum_below, flag, only_if}
use Rattle.number_laws.specs.Tests.{any_below}
use Rattle.number_laws.proofs.SumLaws.{only_if-at_most, sum_below-agree, sum_below-plus, sum_below-zero}
use Rattle.number_laws.proofs.TestLaws.{any_below-from, any_below-none, any_below-some}
use Rattle.sporadic_model.specs.SetDef.{task_at}
use Rattle.sporadic_model.specs.Users.{count_of, is_user}
use Rattle.schedule_model.specs.declared.rule.Rule.TheVariants as rule
use Rattle.schedule_model.specs.JobDef.{job_of}
use Rattle.schedule_model.specs.LawfulJobs.{IsLawfulJob, AreLawfulJobs}
use Rattle.schedule_model.specs.RowDef.{Trace, jobs_of, holder_in}
use Rattle.schedule_model.specs.Phase.{is_same_request, phase_of}
use Rattle.schedule_model.specs.Phase.Phase.{Asking}
use Rattle.schedule_model.specs.Activity.{task_of, processor_of, is_active}
use Rattle.schedule_model.specs.SharedRules.{KeepsRun}
use Rattle.schedule_model.specs.Ranks.{mpcp}
use Rattle.schedule_model.specs.Protocols.{shared_rule}
use Rattle.schedule_model.specs.Keeping.{KeepsBefore}
use Rattle.schedule_laws.proofs.ActiveJobs.{Active, active_is, one_active, Requester, requester_from}
use Rattle.schedule_laws.proofs.Holders.{open_active, shared_holder_stays}
use Rattle.schedule_laws.proofs.RuleUses.{requested_held}
use Rattle.schedule_laws.proofs.Segments.{open_listed, open_resource, open_user}
use Rattle.schedule_laws.proofs.SharedLaws.{shared_runs_active}
use Rattle.schedule_laws.proofs.Ticks.{open_between, same_true, one_resource}
use Rattle.blocking_columns.specs.declared.columns.Class.{Class}
use Rattle.blocking_columns.specs.declared.columns.Class.TheVariants.{Direct, Indirect, Preemption}
use Rattle.blocking_columns.specs.ColumnDef.{ColumnDef, is_preemption}
use Rattle.blocking_columns.specs.Windows.{requests_by_higher}
use Rattle.charge_laws.specs.Charges.{shared_charge}
use Rattle.charge_laws.specs.Windows.{window_end}
use Rattle.charge_laws.proofs.SharedCharging.{WaitsFor, SharedReason, shared_reason}
use Rattle.row_laws.specs.Meeting.{brings, TicksMeet}
use Rattle.row_laws.proofs.Brings.{Window, Hit, hit, flag_times-at_most, flag_times-passes, only_if-parts}
use Rattle.row_laws.proofs.HeldResources.{HigherAt, by_resource, by_higher}
use Rattle.row_laws.proofs.HoldingParts.{Holding}
use Rattle.row_laws.proofs.Holdings.{resource_of, own_resource, first_holder, no_local_beside}
use Rattle.row_laws.proofs.JobRows.{HitJob, hit_job}
use Rattle.row_laws.proofs.LowerHolders.{Asks, asks_between, held_since, holder_asks}
use Rattle.row_laws.proofs.Numbers.{OwnRequest, paid_at, paid_by_each, sum_below-only}
use Rattle.row_laws.proofs.Requests.{one_request}
use Rattle.row_laws.proofs.SlotRow.{OneRequest, Shares}
use Rattle.closer_laws.specs.CloserRows.{is_held_there}
use Rattle.closer_laws.proofs.HolderRows.{held_there}
use Rattle.closer_laws.proofs.Waits.{waits_other}
use Rattle.closer_mpcp_laws.specs.CloserMpcpRows.{is_away, has_lower_away, away_holdings, away_row}
use Rattle.closer_mpcp_laws.proofs.LowerWaits.{not_held_lower}

-- What the row counts of a column.
abbrev away_share : ℕ → (ℕ → ℕ → ℕ) → ColumnDef → ℕ
away_share x share c = flag ((c.task == x) && not (is_preemption c.class)) * share c.task c.resource

-- Job j waits for what a job of x's processor holds, and job r of x is charged.
record Serves (w : Trace) (t j x r : ℕ) : Type 0 where
  task : task_of w r ≡ x
  number : ℕ
  asks : phase_of w t j ≡ Asking number (own_resource w j t)
  within : own_resource w j t < length w.set.resources
  passes : (is_user w.set (own_resource w j t) (task_of w j) && is_held_there w.set (task_of w j) x (own_resource w j t)) ≡ true
  holder : holder_in (w.row t) (own_resource w j t) ≡ Some (first_holder w j t)
  place : processor_of w (first_holder w j t) ≡ (task_at w.set x).processor
  other : (task_of w (first_holder w j t) ≡ task_of w j) → ⊥

-- The job that it waits for is of the charged job's processor.
record HeldHere (w : Trace) (t j y : ℕ) : Type 0 where
  holder : ℕ
  waits : WaitsFor w t j holder
  place : processor_of w holder ≡ processor_of w y

held_here : (w : Trace) (t j y : ℕ) (c : Class) → KeepsRun w t → is_preemption c ≡ false → SharedReason mpcp w t j c y → HeldHere w t j y
held_here w t j y Direct run other why = record { holder = y; waits = why.waits; place = refl }
held_here w t j y Indirect run other why =
    record { holder = why.first; waits = why.waits; place = run.column (processor_of w why.first) y why.runs }
held_here w t j y Preemption run other why = absurd (cc)

serves : (w : Trace) (n t j x r : ℕ) → KeepsBefore (shared_rule mpcp) w n → AreLawfulJobs (jobs_of w) → t < n → task_of w r ≡ x
    → HeldHere w t j r → Serves w t j x r
serves w n t j x r keeps lawful l task a = record {
  task = task;
  number = a.waits.number;
  asks = a.waits.request ∙ ap (Asking a.waits.number) (sym own);
  within = rw own (open_resource w.set w t j a.waits.number a.waits.resource job a.waits.request);
  passes = rw own (and_from _ _ (open_user w.set w t j a.waits.number a.waits.resource job a.waits.request)
      (ap (λ z. is_held_there w.set (task_of w j) z a.waits.resource) (sym task)
      ∙ held_there mpcp w n t j a.holder r keeps lawful l a.waits a.place));
  holder = ap (holder_in (w.row t)) own ∙ a.waits.holder ∙ ap (λ z. Some z) (sym first);
  place = ap (processor_of w) first ∙ a.place ∙ ap (λ z. (task_at w.set z).processor) task;
  other = λ e. waits_other w t j a.holder a.waits (ap (task_of w) (sym first) ∙ e);
} where
  job : IsLawfulJob w.set (job_of w.jobs j)
  job = lawful.each j (open_listed w t j a.waits.number a.waits.resource a.waits.request)

  own : own_resource w j t ≡ a.waits.resource
  own = ap resource_of a.waits.request

  first : first_holder w j t ≡ a.holder
  first = ap (λ q. option_map_or (λ y. y) (holder_in (w.row t) q) 0) own ∙ ap (λ o. option_map_or (λ y. y) o 0) a.waits.holder

serves_at : (w : Trace) (bound : ℕ → ℕ) (n j x s : ℕ) (share : ℕ → ℕ → ℕ) (t : ℕ) → Holding w bound n j x s share → t < n
    → (h : Hit shared_charge w (away_share x share) j t) → Serves w t j x h.charge.job
serves_at w bound n j x s share t c l h =
    let both : ((task_of w h.charge.job == x) ≡ true) × (not (is_preemption h.charge.class) ≡ true) =
    and_parts _ _ (flag_times-passes ((task_of w h.charge.job == x) && not (is_preemption h.charge.class))
    (share (task_of w h.charge.job) h.resource) h.some) in
    serves w n t j x h.charge.job c.keeps c.window.lawful l (eqb-true _ _ both.0)
    (held_here w t j h.charge.job h.charge.class (c.keeps t l rule.Run) (not-true _ both.1)
    (shared_reason mpcp w t j h.charge (c.keeps t l) h.is_it))

-- The last number below n that passes.
last_below : ℕ → (ℕ → Bool) → ℕ
last_below zero p = 0
last_below (suc n) p = if p n then n else last_below n p

record Last (n : ℕ) (p : ℕ → Bool) : Type 0 where
  within : last_below n p < n
  passes : p (last_below n p) ≡ true
  none : (k : ℕ) → last_below n p < k → k < n → p k ≡ false

last_is : (n : ℕ) (p : ℕ → Bool) → any_below n p ≡ true → Last n p
unfolding last_below
last_is zero p h = absurd (cc)
last_is (suc n) p h = elim (cases_Bool (p n)) [
  | inl here ↦
      let e : last_below (suc n) p ≡ n = rw here refl in
      record { within = omega (arith, e); passes = ap p e ∙ here; none = λ k a b. absurd (omega (arith, e, a, b)) }
  | inr off ↦
      let e : last_below (suc n) p ≡ last_below n p = rw off refl in
      let some : (k : ℕ) × (k < suc n) × (p k ≡ true) = any_below-some (suc n) p h in
      let a : Last n p = last_is n p (any_below-from n p some.0 (before some.0 off some.1 some.2) some.2) in
      record {
        within = omega (arith, e, a.within);
        passes = ap p e ∙ a.passes;
        none = λ k l b. elim (cases_lt k n) [
          | inl less ↦ a.none k (omega (arith, e, l)) less
          | inr last ↦ let same : k ≡ n = omega arith in ap p same ∙ off
        ];
      }
] where
  before : (k : ℕ) → p n ≡ false → k < suc n → p k ≡ true → k < n
  before k off l passes = elim (cases_lt k n) [
    | inl less ↦ less
    | inr last ↦ let same : k ≡ n = omega arith in absurd (both_ways (p n) off (ap p (sym same) ∙ passes))
  ]

-- At tick s, is j in the request in which it is at t, while a job of another processor than x's holds what it requests?
abbrev is_off : Trace → ℕ → ℕ → ℕ → ℕ → Bool
is_off w j x t s =
    is_same_request (phase_of w s j) (phase_of w t j) && not (processor_of w (first_holder w j s) == (task_at w.set x).processor)

-- What is said by that.
record Off (w : Trace) (j x k q s : ℕ) : Type 0 where
  asks : phase_of w s j ≡ Asking k q
  away : not (processor_of w (first_holder w j s) == (task_at w.set x).processor) ≡ true

off_is : (w : Trace) (j x k q t s : ℕ) → phase_of w t j ≡ Asking k q → is_off w j x t s ≡ true → Off w j x k q s
off_is w j x k q t s asks h =
    let both : (is_same_request (phase_of w s j) (phase_of w t j) ≡ true) × _ = and_parts _ _ h in
    let same : is_same_request (phase_of w s j) (Asking k q) ≡ true = rw asks at both.0 in
    let some : (r : ℕ) × (phase_of w s j ≡ Asking k r) = same_true (phase_of w s j) k q same in
    record { asks = some.1 ∙ ap (Asking k) (one_resource w s t j k some.0 q some.1 asks); away = both.1 }

-- What a job requests is held.
holder_named : (w : Trace) (n t j k q : ℕ) → KeepsBefore (shared_rule mpcp) w n → AreLawfulJobs (jobs_of w) → t < n
    → phase_of w t j ≡ Asking k q → holder_in (w.row t) q ≡ Some (first_holder w j t)
holder_named w n t j k q keeps lawful l asks =
    let listed : j < length w.jobs = open_listed w t j k q asks in
    let active : is_active w t j ≡ true =
    open_active w n t j k q (shared_runs_active mpcp w n keeps) (omega arith) (lawful.each j listed).script asks in
    let held : (z : ℕ) × (holder_in (w.row t) q ≡ Some z) =
    requested_held mpcp w t q j (keeps t l rule.Grant) (requester_from w t q j k active asks) in
    let own : own_resource w j t ≡ q = ap resource_of asks in
    let first : first_holder w j t ≡ held.0 =
    ap (λ r. option_map_or (λ y. y) (holder_in (w.row t) r) 0) own ∙ ap (λ o. option_map_or (λ y. y) o 0) held.1 in
    held.1 ∙ ap (λ z. Some z) (sym first)

-- Two ticks of one request, with no such tick from the first on, are charged to one request.
one_without : (w : Trace) (bound : ℕ → ℕ) (n j x s : ℕ) (share : ℕ → ℕ → ℕ) (u v k q : ℕ) → Holding w bound n j x s share → u ≤ v
    → v < window_end w bound n j → (a : Hit shared_charge w (away_share x share) j u)
    → (b : Hit shared_charge w (away_share x share) j v) → phase_of w u j ≡ Asking k q → phase_of w v j ≡ Asking k q
    → ((t : ℕ) → u ≤ t → t < v → is_off w j x v t ≡ false) → OneRequest w u v a.charge.job b.charge.job
one_without w bound n j x s share u v k q c order l a b early late none =
    let there : HitJob shared_charge w bound j u a.charge.job =
    hit_job shared_charge w bound n j u (away_share x share) c.window (omega arith) a in
    let later : HitJob shared_charge w bound j v b.charge.job = hit_job shared_charge w bound n j v (away_share x share) c.window l b in
    let first : Serves w u j x a.charge.job = serves_at w bound n j x s share u c (omega arith) a in
    let last : Serves w v j x b.charge.job = serves_at w bound n j x s share v c (omega arith) b in
    one_request w n u v a.charge.job b.charge.job b.number b.resource c.window.active (omega arith) order
    (c.window.lawful.each b.charge.job later.listed).script there.active (first.task ∙ sym last.task) b.request
    (λ t from before local runs. no_local_beside mpcp w n t q (first_holder w j t) b.charge.job c.keeps (omega arith)
    (holder_named w n t j k q c.keeps c.window.lawful (omega arith) (still t from before))
    (ap (λ z. (task_at w.set z).processor) last.task ∙ sym (here t from before)) local runs) where
      still : (t : ℕ) → u ≤ t → t < v → phase_of w t j ≡ Asking k q
      still t from before = open_between w u t v j k q q early late from (omega arith)

      here : (t : ℕ) → u ≤ t → t < v → processor_of w (first_holder w j t) ≡ (task_at w.set x).processor
      here t from before = elim (cases_Bool (processor_of w (first_holder w j t) == (task_at w.set x).processor)) [
        | inl on ↦ eqb-true _ _ on
        | inr off ↦
            let same : is_same_request (phase_of w t j) (phase_of w v j) ≡ true = rw (still t from before, late) (eq-eqb k k refl) in
            absurd (both_ways (is_off w j x v t) (none t from before) (and_from _ _ same (not_from_false _ off)))
      ]

-- A job that holds what j requests at a tick that is charged isn't of another processor.
not_off : (w : Trace) (n j x r u q z : ℕ) → Serves w u j x r → own_resource w j u ≡ q → holder_in (w.row u) q ≡ Some z
    → not (processor_of w z == (task_at w.set x).processor) ≡ true → ⊥
not_off w n j x r u q z a own holds away =
    let both : Some (first_holder w j u) ≡ Some z = sym a.holder ∙ ap (holder_in (w.row u)) own ∙ holds in
    let same : first_holder w j u ≡ z = cc in
    both_ways _ (not-true _ away) (eq-eqb _ _ (ap (processor_of w) (sym same) ∙ a.place))

-- What a tick brings to the row; of that, what is waited for q; of that, before q was held away from x's processor, and after; and of the
-- latter, after a lower task held it, and after a higher one did.
abbrev amount : Trace → ℕ → ℕ → (ℕ → ℕ → ℕ) → ℕ → ℕ
amount w j x share t = brings shared_charge w (away_share x share) j t

abbrev for_resource : Trace → ℕ → ℕ → (ℕ → ℕ → ℕ) → ℕ → ℕ → ℕ
for_resource w j x share q t = only_if (own_resource w j t == q) (amount w j x share t)

abbrev was_off : Trace → ℕ → ℕ → ℕ → Bool
was_off w j x t = any_below t (is_off w j x t)

abbrev off_tick : Trace → ℕ → ℕ → ℕ → ℕ
off_tick w j x t = last_below t (is_off w j x t)

abbrev off_holder : Trace → ℕ → ℕ → ℕ → ℕ
off_holder w j x t = first_holder w j (off_tick w j x t)

abbrev was_low : Trace → ℕ → ℕ → ℕ → Bool
was_low w j x t = nat_lt (task_of w j) (task_of w (off_holder w j x t))

abbrev first_part : Trace → ℕ → ℕ → (ℕ → ℕ → ℕ) → ℕ → ℕ → ℕ
first_part w j x share q t = only_if (not (was_off w j x t)) (for_resource w j x share q t)

abbrev off_part : Trace → ℕ → ℕ → (ℕ → ℕ → ℕ) → ℕ → ℕ → ℕ
off_part w j x share q t = only_if (was_off w j x t) (for_resource w j x share q t)

abbrev low_part : Trace → ℕ → ℕ → (ℕ → ℕ → ℕ) → ℕ → ℕ → ℕ
low_part w j x share q t = only_if (was_low w j x t) (off_part w j x share q t)

abbrev high_part : Trace → ℕ → ℕ → (ℕ → ℕ → ℕ) → ℕ → ℕ → ℕ
high_part w j x share q t = only_if (not (was_low w j x t)) (off_part w j x share q t)

shares_of : (w : Trace) (bound : ℕ → ℕ) (n j x s : ℕ) (share : ℕ → ℕ → ℕ) → Holding w bound n j x s share
    → Shares w s share (away_share x share)
shares_of w bound n j x s share c =
    record { fair = c.fair; small = λ k. flag_times-at_most ((k.task == x) && not (is_preemption k.class)) (share k.task k.resource) }

-- What a tick that counts for q says.
record ForResource (w : Trace) (j x : ℕ) (share : ℕ → ℕ → ℕ) (q t : ℕ) : Type 0 where
  resource : own_resource w j t ≡ q
  hits : Hit shared_charge w (away_share x share) j t
  facts : Serves w t j x hits.charge.job
  asks : phase_of w t j ≡ Asking facts.number q

for_resource_is : (w : Trace) (bound : ℕ → ℕ) (n j x s : ℕ) (share : ℕ → ℕ → ℕ) (q t : ℕ) → Holding w bound n j x s share → t < n
    → 0 < for_resource w j x share q t → ForResource w j x share q t
for_resource_is w bound n j x s share q t c l some =
    let parts : ((own_resource w j t == q) ≡ true) × (0 < amount w j x share t) =
    only_if-parts (own_resource w j t == q) (amount w j x share t) some in
    let h : Hit shared_charge w (away_share x share) j t = hit shared_charge w (away_share x share) j t parts.1 in
    let a : Serves w t j x h.charge.job = serves_at w bound n j x s share t c l h in
    record {
      resource = eqb-true _ _ parts.0;
      hits = h;
      facts = a;
      asks = a.asks ∙ ap (Asking a.number) (eqb-true _ _ parts.0);
    }

-- What it says where q was held away before.
record AfterOff (w : Trace) (j x : ℕ) (share : ℕ → ℕ → ℕ) (q t : ℕ) : Type 0 where
  for : ForResource w j x share q t
  last : Last t (is_off w j x t)
  off : Off w j x for.facts.number q (off_tick w j x t)
  holds : holder_in (w.row (off_tick w j x t)) q ≡ Some (off_holder w j x t)
  request : Requester w (off_tick w j x t) q (off_holder w j x t)

after_off_is : (w : Trace) (bound : ℕ → ℕ) (n j x s : ℕ) (share : ℕ → ℕ → ℕ) (q t : ℕ) → Holding w bound n j x s share → t < n
    → 0 < off_part w j x share q t → AfterOff w j x share q t
after_off_is w bound n j x s share q t c l some =
    let parts : (was_off w j x t ≡ true) × (0 < for_resource w j x share q t) =
    only_if-parts (was_off w j x t) (for_resource w j x share q t) some in
    let a : ForResource w j x share q t = for_resource_is w bound n j x s share q t c l parts.1 in
    let e : Last t (is_off w j x t) = last_is t (is_off w j x t) parts.0 in
    let o : Off w j x a.facts.number q (off_tick w j x t) = off_is w j x a.facts.number q t (off_tick w j x t) a.asks e.passes in
    let h : holder_in (w.row (off_tick w j x t)) q ≡ Some (off_holder w j x t) =
    holder_named w n (off_tick w j x t) j a.facts.number q c.keeps c.window.lawful (omega (arith, e.within)) o.asks in
    record {
      for = a;
      last = e;
      off = o;
      holds = h;
      request = holder_asks mpcp w n (off_tick w j x t) q (off_holder w j x t) c.keeps (omega (arith, e.within)) h;
    }

-- Before q is held away there is one for each request of q by j.
first_paid : (w : Trace) (bound : ℕ → ℕ) (n j x s : ℕ) (share : ℕ → ℕ → ℕ) (q : ℕ) → Holding w bound n j x s share
    → sum_below (window_end w bound n j) (λ t. first_part w j x share q t) ≤ count_of w.set (task_of w j) q * s
first_paid w bound n j x s share q c =
    paid_by_each shared_charge w bound n j j q s share (away_share x share) (λ t. first_part w j x share q t) c.window
    (shares_of w bound n j x s share c) c.window.listed
    (record {
      below = λ t l. below t;
      asks = λ t l some h. let a : ForResource w j x share q t = (parts t (omega arith) some).1 in (a.facts.number, a.asks);
      one = λ u v k order l first second a b early late. one_without w bound n j x s share u v k q c order l a b early late
          (λ t from before. any_below-none v (is_off w j x v) (parts v (omega arith) second).0 t before);
    }) where
      below : (t : ℕ) → first_part w j x share q t ≤ amount w j x share t
      below t = omega (
        arith,
        only_if-at_most (not (was_off w j x t)) (for_resource w j x share q t),
        only_if-at_most (own_resource w j t == q) (amount w j x share t),
      )

      parts : (t : ℕ) → t < n → 0 < first_part w j x share q t → (was_off w j x t ≡ false) × ForResource w j x share q t
      parts t l some =
          let both : (not (was_off w j x t) ≡ true) × (0 < for_resource w j x share q t) =
          only_if-parts (not (was_off w j x t)) (for_resource w j x share q t) some in
          (not-true _ both.0, for_resource_is w bound n j x s share q t c l both.1)

-- Where the last tick at which q was held away lies before u, what is charged at u and at v is one request.
one_after : (w : Trace) (bound : ℕ → ℕ) (n j x s : ℕ) (share : ℕ → ℕ → ℕ) (u v q : ℕ) → Holding w bound n j x s share → u ≤ v
    → v < window_end w bound n j → (a : Hit shared_charge w (away_share x share) j u)
    → (b : Hit shared_charge w (away_share x share) j v) → (e : AfterOff w j x share q v) → off_tick w j x v < u
    → OneRequest w u v a.charge.job b.charge.job
one_after w bound n j x s share u v q c order l a b e before =
    one_without w bound n j x s share u v e.for.facts.number q c order l a b
    (open_between w (off_tick w j x v) u v j e.for.facts.number q q e.off.asks e.for.asks (omega arith) order) e.for.asks
    (λ t from less. e.last.none t (omega arith) less)

-- After a lower task held q there is one for each request of q by j.
low_paid : (w : Trace) (bound : ℕ → ℕ) (n j x s : ℕ) (share : ℕ → ℕ → ℕ) (q : ℕ) → Holding w bound n j x s share
    → sum_below (window_end w bound n j) (λ t. low_part w j x share q t) ≤ count_of w.set (task_of w j) q * s
low_paid w bound n j x s share q c =
    paid_by_each shared_charge w bound n j j q s share (away_share x share) (λ t. low_part w j x share q t) c.window
    (shares_of w bound n j x s share c) c.window.listed
    (record {
      below = λ t l. below t;
      asks = λ t l some h. let a : AfterOff w j x share q t = (parts t (omega arith) some).1 in (a.for.facts.number, a.for.asks);
      one = λ u v k order l first second a b early late. one_after w bound n j x s share u v q c order l a b (parts v (omega arith) second).1
          (before u v k order l (parts u (omega arith) first).1 (parts v (omega arith) second).0 (parts v (omega arith) second).1 early late);
    }) where
      below : (t : ℕ) → low_part w j x share q t ≤ amount w j x share t
      below t = omega (
        arith,
        only_if-at_most (was_low w j x t) (off_part w j x share q t),
        only_if-at_most (was_off w j x t) (for_resource w j x share q t),
        only_if-at_most (own_resource w j t == q) (amount w j x share t),
      )

      parts : (t : ℕ) → t < n → 0 < low_part w j x share q t
          → (task_of w j < task_of w (off_holder w j x t)) × AfterOff w j x share q t
      parts t l some =
          let both : (was_low w j x t ≡ true) × (0 < off_part w j x share q t) =
          only_if-parts (was_low w j x t) (off_part w j x share q t) some in
          (ltb-true _ _ both.0, after_off_is w bound n j x s share q t c l both.1)

      before : (u v k : ℕ) → u ≤ v → v < window_end w bound n j → AfterOff w j x share q u
          → task_of w j < task_of w (off_holder w j x v) → AfterOff w j x share q v → phase_of w u j ≡ Asking k q
          → phase_of w v j ≡ Asking k q → off_tick w j x v < u
      before u v k order l first low last early late = elim (cases_lt (off_tick w j x v) u) [
        | inl less ↦ less
        | inr after ↦
            let there : phase_of w (off_tick w j x v) j ≡ Asking k q =
            open_between w u (off_tick w j x v) v j k q q early late after (omega (arith, last.last.within)) in
            let active : is_active w u j ≡ true =
            open_active w n u j k q c.window.active (omega arith) (c.window.lawful.each j c.window.listed).script early in
            let asks : Asks w u (off_tick w j x v) q j = asks_between w u (off_tick w j x v) k q q j after active early there in
            absurd (not_off w n j x first.for.hits.charge.job u q (off_holder w j x v) first.for.facts first.for.resource
            (held_since w n u (off_tick w j x v) q (off_holder w j x v) j c.keeps (omega (arith, last.last.within)) asks low last.holds u
            (omega arith) after) last.off.away)
      ]

-- There is none where no lower task of other processors than both uses q.
low_where : (w : Trace) (bound : ℕ → ℕ) (n j x s : ℕ) (share : ℕ → ℕ → ℕ) (q : ℕ) → Holding w bound n j x s share
    → sum_below (window_end w bound n j) (λ t. low_part w j x share q t)
    ≤ s * only_if (has_lower_away w.set (task_of w j) x q) (count_of w.set (task_of w j) q)
low_where w bound n j x s share q c = elim (cases_Bool (has_lower_away w.set (task_of w j) x q)) [
  | inl on ↦ rw on (omega (arith, low_paid w bound n j x s share q c, mul_comm (count_of w.set (task_of w j) q) s))
  | inr off ↦
      let none : sum_below (window_end w bound n j) (λ t. low_part w j x share q t) ≡ 0 =
      sum_below-zero (window_end w bound n j) (λ t. low_part w j x share q t) (λ t b. nothing off t b) in
      omega (arith, none)
] where
  nothing : has_lower_away w.set (task_of w j) x q ≡ false → (t : ℕ) → t < window_end w bound n j → low_part w j x share q t ≡ 0
  nothing off t b = elim (cases_lt 0 (low_part w j x share q t)) [
    | inr none ↦ omega arith
    | inl some ↦
        let both : (was_low w j x t ≡ true) × (0 < off_part w j x share q t) =
        only_if-parts (was_low w j x t) (off_part w j x share q t) some in
        let a : AfterOff w j x share q t = after_off_is w bound n j x s share q t c (omega arith) both.1 in
        let z : ℕ = off_holder w j x t in
        let listed : off_holder w j x t < length w.jobs = open_listed w (off_tick w j x t) (off_holder w j x t) a.request.number q a.request.phase in
        let job : IsLawfulJob w.set (job_of w.jobs (off_holder w j x t)) = c.window.lawful.each (off_holder w j x t) listed in
        let elsewhere : not (processor_of w (off_holder w j x t) == processor_of w j) ≡ true =
        not_here t (omega arith) (ltb-true _ _ both.0) a in
        absurd (both_ways (nat_lt (task_of w j) (task_of w z) && ((is_away w.set x (task_of w z) && is_away w.set (task_of w j) (task_of w z))
        && is_user w.set q (task_of w z)))
        (any_below-none (length w.set.tasks)
        (λ y. nat_lt (task_of w j) y && ((is_away w.set x y && is_away w.set (task_of w j) y) && is_user w.set q y)) off (task_of w z) job.task)
        (and_from _ _ both.0 (and_from _ _ (and_from _ _ a.off.away elsewhere)
        (open_user w.set w (off_tick w j x t) (off_holder w j x t) a.request.number q job a.request.phase))))
  ] where
    not_here : (t : ℕ) → t < n → task_of w j < task_of w (off_holder w j x t) → (a : AfterOff w j x share q t)
        → not (processor_of w (off_holder w j x t) == processor_of w j) ≡ true
    not_here t l low a = elim (cases_Bool (processor_of w (off_holder w j x t) == processor_of w j)) [
      | inr off ↦ not_from_false _ off
      | inl here ↦ absurd (not_held_lower w n (off_tick w j x t) j (off_holder w j x t) a.for.facts.number q c.keeps c.window.lawful
          (omega (arith, a.last.within)) a.off.asks a.holds (record { lower = low; processor = eqb-true _ _ here }))
    ]

-- After a job z of a higher task held q there is one for each request of q by z.
job_paid : (w : Trace) (bound : ℕ → ℕ) (n j x s : ℕ) (share : ℕ → ℕ → ℕ) (q y z : ℕ) → Holding w bound n j x s share
    → z < length w.jobs → task_of w z ≡ y
    → sum_below (window_end w bound n j) (λ t. only_if (off_holder w j x t == z)
    (only_if (task_of w (off_holder w j x t) == y) (high_part w j x share q t)))
    ≤ count_of w.set y q * s
job_paid w bound n j x s share q y z c listed task =
    let paid : sum_below (window_end w bound n j) part ≤ count_of w.set (task_of w z) q * s = omega (
      arith,
      paid_at shared_charge w bound n j z s share (away_share x share) part (λ r. r == q) (λ t. off_tick w j x t) c.window
          (shares_of w bound n j x s share c) listed
          (record {
            below = λ t l. below t;
            own = λ t l some h. own t (parts t (omega arith) some);
            one = λ u v k a b order l first second g h early late. one_after w bound n j x s share u v q c order l g h
                (parts v (omega arith) second).1
                (before u v k a b order l (parts u (omega arith) first) (parts v (omega arith) second) early late);
          }),
      mul-le-mul_left s (sum_below-only (length w.set.resources) q (count_of w.set (task_of w z))),
      mul_comm s (count_of w.set (task_of w z) q),
    ) in
    rw task at paid where
      part : ℕ → ℕ
      part = λ t. only_if (off_holder w j x t == z) (only_if (task_of w (off_holder w j x t) == y) (high_part w j x share q t))

      below : (t : ℕ) → part t ≤ amount w j x share t
      below t = omega (
        arith,
        only_if-at_most (off_holder w j x t == z) (only_if (task_of w (off_holder w j x t) == y) (high_part w j x share q t)),
        only_if-at_most (task_of w (off_holder w j x t) == y) (high_part w j x share q t),
        only_if-at_most (not (was_low w j x t)) (off_part w j x share q t),
        only_if-at_most (was_off w j x t) (for_resource w j x share q t),
        only_if-at_most (own_resource w j t == q) (amount w j x share t),
      )

      parts : (t : ℕ) → t < n → 0 < part t → (off_holder w j x t ≡ z) × AfterOff w j x share q t
      parts t l some =
          let one : ((off_holder w j x t == z) ≡ true)
          × (0 < only_if (task_of w (off_holder w j x t) == y) (high_part w j x share q t)) =
          only_if-parts (off_holder w j x t == z) (only_if (task_of w (off_holder w j x t) == y) (high_part w j x share q t)) some in
          let two : ((task_of w (off_holder w j x t) == y) ≡ true) × (0 < high_part w j x share q t) =
          only_if-parts (task_of w (off_holder w j x t) == y) (high_part w j x share q t) one.1 in
          let three : (not (was_low w j x t) ≡ true) × (0 < off_part w j x share q t) =
          only_if-parts (not (was_low w j x t)) (off_part w j x share q t) two.1 in
          (eqb-true _ _ one.0, after_off_is w bound n j x s share q t c l three.1)

      own : (t : ℕ) → (off_holder w j x t ≡ z) × AfterOff w j x share q t → OwnRequest w (off_tick w j x t) z (λ r. r == q)
      own t a = record {
        number = a.1.request.number;
        resource = q;
        request = ap (phase_of w (off_tick w j x t)) (sym a.0) ∙ a.1.request.phase;
        passes = eq-eqb q q refl;
      }

      before : (u v k a b : ℕ) → u ≤ v → v < window_end w bound n j → (off_holder w j x u ≡ z) × AfterOff w j x share q u
          → (off_holder w j x v ≡ z) × AfterOff w j x share q v → phase_of w (off_tick w j x u) z ≡ Asking k a
          → phase_of w (off_tick w j x v) z ≡ Asking k b → off_tick w j x v < u
      before u v k a b order l first last early late = elim (cases_lt (off_tick w j x v) u) [
        | inl less ↦ less
        | inr after ↦
            let one : Asking k a ≡ Asking first.1.request.number q =
            sym early ∙ (ap (phase_of w (off_tick w j x u)) (sym first.0) ∙ first.1.request.phase) in
            let other : Asking k b ≡ Asking last.1.request.number q =
            sym late ∙ (ap (phase_of w (off_tick w j x v)) (sym last.0) ∙ last.1.request.phase) in
            let at_q : a ≡ q = cc in
            let to_q : b ≡ q = cc in
            let asked : phase_of w (off_tick w j x u) z ≡ Asking k q = early ∙ ap (Asking k) at_q in
            let asks : phase_of w (off_tick w j x v) z ≡ Asking k q = late ∙ ap (Asking k) to_q in
            let held : holder_in (w.row (off_tick w j x u)) q ≡ Some z = first.1.holds ∙ ap (λ i. Some i) first.0 in
            let here : phase_of w u z ≡ Asking k q =
            open_between w (off_tick w j x u) u (off_tick w j x v) z k q q asked asks (omega (arith, first.1.last.within)) after in
            let holds : holder_in (w.row u) q ≡ Some z =
            shared_holder_stays mpcp w n (off_tick w j x u) u q z k q c.keeps (omega (arith, first.1.last.within)) (omega arith) asked here held in
            let away : not (processor_of w z == (task_at w.set x).processor) ≡ true =
            ap (λ i. not (processor_of w i == (task_at w.set x).processor)) (sym last.0) ∙ last.1.off.away in
            absurd (not_off w n j x first.1.for.hits.charge.job u q z first.1.for.facts first.1.for.resource holds away)
      ]

-- After higher tasks held q there is one for each request of q that those of other processors than x's make in the window.
high_paid : (w : Trace) (bound : ℕ → ℕ) (n j x s : ℕ) (share : ℕ → ℕ → ℕ) (q : ℕ) → Holding w bound n j x s share
    → sum_below (window_end w bound n j) (λ t. high_part w j x share q t)
    ≤ s * requests_by_higher w.set bound (task_of w j) (is_away w.set x) q
high_paid w bound n j x s share q c =
    by_higher shared_charge w bound n j q s (is_away w.set x) (λ t. off_holder w j x t) (λ t. off_tick w j x t)
    (λ t. high_part w j x share q t) c.window (λ t l some. higher t l some)
    (λ y z b task. job_paid w bound n j x s share q y z c b task) where
      higher : (t : ℕ) → t < window_end w bound n j → 0 < high_part w j x share q t
          → HigherAt w bound j (is_away w.set x) (off_holder w j x t) (off_tick w j x t)
      higher t l some =
          let three : (not (was_low w j x t) ≡ true) × (0 < off_part w j x share q t) =
          only_if-parts (not (was_low w j x t)) (off_part w j x share q t) some in
          let a : AfterOff w j x share q t = after_off_is w bound n j x s share q t c (omega arith) three.1 in
          let own : is_active w (off_tick w j x t) j ≡ true =
          open_active w n (off_tick w j x t) j a.for.facts.number q c.window.active (omega (arith, a.last.within))
          (c.window.lawful.each j c.window.listed).script a.off.asks in
          let released : Active w (off_tick w j x t) j = active_is w (off_tick w j x t) j own in
          record {
            active = a.request.active;
            higher = is_higher t l three.0 a own;
            passes = a.off.away;
            from = released.released;
            before = omega (arith, a.last.within);
          } where
            is_higher : (t : ℕ) → t < window_end w bound n j → not (was_low w j x t) ≡ true → (a : AfterOff w j x share q t)
                → is_active w (off_tick w j x t) j ≡ true → task_of w (off_holder w j x t) < task_of w j
            is_higher t l low a own =
                let most : task_of w (off_holder w j x t) ≤ task_of w j = ltb-false _ _ (not-true _ low) in
                elim (cases_lt (task_of w (off_holder w j x t)) (task_of w j)) [
                  | inl less ↦ less
                  | inr equal ↦
                      let same : off_holder w j x t ≡ j =
                      one_active w (off_tick w j x t) (off_holder w j x t) j a.request.active own (omega arith) in
                      let held : holder_in (w.row (off_tick w j x t)) q ≡ Some j = a.holds ∙ ap (λ i. Some i) same in
                      let holds : holder_in (w.row t) q ≡ Some j =
                      shared_holder_stays mpcp w n (off_tick w j x t) t q j a.for.facts.number q c.keeps (omega (arith, a.last.within))
                      (omega arith) a.off.asks a.for.asks held in
                      let both : Some (first_holder w j t) ≡ Some j =
                      sym a.for.facts.holder ∙ ap (holder_in (w.row t)) a.for.resource ∙ holds in
                      let first : first_holder w j t ≡ j = cc in
                      absurd (a.for.facts.other (ap (task_of w) first))
                ]

split_parts : (b : Bool) (n : ℕ) → n ≡ only_if b n + only_if (not b) n
split_parts true n = omega arith
split_parts false n = omega arith

three_parts : (w : Trace) (j x : ℕ) (share : ℕ → ℕ → ℕ) (q t : ℕ)
    → for_resource w j x share q t ≡ first_part w j x share q t + (low_part w j x share q t + high_part w j x share q t)
three_parts w j x share q t = omega (
  arith,
  split_parts (was_off w j x t) (for_resource w j x share q t),
  split_parts (was_low w j x t) (off_part w j x share q t),
)

-- So all that is waited for q.
resource_paid : (w : Trace) (bound : ℕ → ℕ) (n j x s : ℕ) (share : ℕ → ℕ → ℕ) (q : ℕ) → Holding w bound n j x s share
    → sum_below (window_end w bound n j) (λ t. for_resource w j x share q t)
    ≤ s * (count_of w.set (task_of w j) q + away_holdings w.set bound (task_of w j) x q)
resource_paid w bound n j x s share q c =
    let split : sum_below (window_end w bound n j) (λ t. for_resource w j x share q t)
    ≡ sum_below (window_end w bound n j)
    (λ t. first_part w j x share q t + (low_part w j x share q t + high_part w j x share q t)) =
    sum_below-agree (window_end w bound n j) (λ t. for_resource w j x share q t)
    (λ t. first_part w j x share q t + (low_part w j x share q t + high_part w j x share q t)) (λ t l. three_parts w j x share q t) in
    let one : sum_below (window_end w bound n j)
    (λ t. first_part w j x share q t + (low_part w j x share q t + high_part w j x share q t))
    ≡ sum_below (window_end w bound n j) (λ t. first_part w j x share q t)
    + sum_below (window_end w bound n j) (λ t. low_part w j x share q t + high_part w j x share q t) =
    sum_below-plus (window_end w bound n j) (λ t. first_part w j x share q t)
    (λ t. low_part w j x share q t + high_part w j x share q t) in
    let two : sum_below (window_end w bound n j) (λ t. low_part w j x share q t + high_part w j x share q t)
    ≡ sum_below (window_end w bound n j) (λ t. low_part w j x share q t)
    + sum_below (window_end w bound n j) (λ t. high_part w j x share q t) =
    sum_below-plus (window_end w bound n j) (λ t. low_part w j x share q t) (λ t. high_part w j x share q t) in
    let outer : s * (count_of w.set (task_of w j) q + away_holdings w.set bound (task_of w j) x q)
    ≡ s * count_of w.set (task_of w j) q + s * away_holdings w.set bound (task_of w j) x q =
    mul-add s (count_of w.set (task_of w j) q) (away_holdings w.set bound (task_of w j) x q) in
    let inner : s * away_holdings w.set bound (task_of w j) x q
    ≡ s * requests_by_higher w.set bound (task_of w j) (is_away w.set x) q
    + s * only_if (has_lower_away w.set (task_of w j) x q) (count_of w.set (task_of w j) q) =
    mul-add s (requests_by_higher w.set bound (task_of w j) (is_away w.set x) q)
    (only_if (has_lower_away w.set (task_of w j) x q) (count_of w.set (task_of w j) q)) in
    omega (
      arith,
      split,
      one,
      two,
      outer,
      inner,
      first_paid w bound n j x s share q c,
      mul_comm (count_of w.set (task_of w j) q) s,
      low_where w bound n j x s share q c,
      high_paid w bound n j x s share q c,
    )

-- The row of away holdings.
pub away_row_met : (w : Trace) (bound : ℕ → ℕ) (n j x : ℕ) → Window shared_charge w bound n j → KeepsBefore (shared_rule mpcp) w n
    → TicksMeet shared_charge w bound n j (away_row w.set (task_of w j) x)
away_row_met w bound n j x window keeps s share fair =
    by_resource shared_charge w bound n j s (away_share x share)
    (λ r. is_user w.set r (task_of w j) && is_held_there w.set (task_of w j) x r)
    (λ r. count_of w.set (task_of w j) r + away_holdings w.set bound (task_of w j) x r)
    (λ t l h. let a : Serves w t j x h.charge.job = serves_at w bound n j x s share t c (omega arith) h in
    record { within = a.within; passes = a.passes })
    (λ q l on. resource_paid w bound n j x s share q c) where
      c : Holding w bound n j x s share
      c = record { window = window; keeps = keeps; fair = fair }
