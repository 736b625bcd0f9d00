-- The row of homes, under DPCP. While a job is in a request at a processor, no lower request is granted there. Of those that were granted
-- before, at most one runs.
use Rattle.std.proofs.Common.{◌≡◌, ℕ, suc, ◌*◌, ◌<◌, ◌≤◌, ◌==◌, ◌&&◌, not, true, false, refl, sym, ap, subst, ◌∙◌}
use Rattle.std.proofs.Common.{arith, inl, inr, Some, nat_lt}
use Rattle.std.proofs.lemmas.Bool.{cases_lt, cases_Bool, and_parts, and_from, eqb-true, eq-eqb, ltb-true, not-true, not_from_false}
use Rattle.number_laws.specs.Sums.{flag}
use Rattle.schedule_model.specs.declared.rule.Rule.TheVariants as rule
use Rattle.schedule_model.specs.LawfulJobs.{AreLawfulJobs}
use Rattle.schedule_model.specs.RowDef.{Trace, jobs_of, is_job, holder_in, held_before}
use Rattle.schedule_model.specs.Phase.{phase_of}
use Rattle.schedule_model.specs.Phase.Phase.{Local, Asking}
use Rattle.schedule_model.specs.Activity.{task_of, is_requester, holds_by}
use Rattle.schedule_model.specs.DpcpRules.{home_of, ceiling_rank, waits_at}
use Rattle.schedule_model.specs.Protocols.{dpcp_rule}
use Rattle.schedule_model.specs.Keeping.{KeepsBefore}
use Rattle.schedule_laws.proofs.ActiveJobs.{active_listed, one_active, requester_listed}
use Rattle.schedule_laws.proofs.DpcpLaws.{dpcp_runs_active}
use Rattle.schedule_laws.proofs.Ticks.{one_resource}
use Rattle.schedule_laws.proofs.Rows.{job_named}
use Rattle.blocking_columns.specs.declared.columns.Class.{Class}
use Rattle.blocking_columns.specs.declared.columns.Class.TheVariants.{Direct, Indirect, Preemption}
use Rattle.blocking_columns.specs.ColumnDef.{ColumnDef, is_preemption}
use Rattle.sporadic_model.specs.Homes.{home_in}
use Rattle.indirect_constraints.specs.Rows.{home_row}
use Rattle.charge_laws.specs.Charges.{dpcp_charge}
use Rattle.charge_laws.specs.Windows.{window_end}
use Rattle.charge_laws.proofs.DpcpCharging.{RunsRequest, HomeBlocked, DpcpReason, dpcp_reason, request_at_from}
use Rattle.row_laws.specs.Meeting.{TicksMeet}
use Rattle.row_laws.proofs.Brings.{Window, Hit, flag_times-at_most, flag_times-passes}
use Rattle.row_laws.proofs.SlotRow.{OneRequest}
use Rattle.row_laws.proofs.Requests.{one_request}
use Rattle.row_laws.proofs.Numbers.{by_number}
use Rattle.row_laws.proofs.LowerHolders.{Asks, asks_between, held_back}
use Rattle.row_laws.proofs.Ordered.{HoldsAt, requester_facts, holder_facts, Granted, new_granted, LowRunner, runs_first}
use Rattle.row_laws.proofs.Ordered.{low_ceiling, ordered, kept_from}

-- If job j is in a request at a processor, no lower job is granted one there.
pub no_low_grant : (w : Trace) (t k q y j : ℕ) → AreLawfulJobs (jobs_of w) → Granted w t k y → is_requester w t q j ≡ true → home_of w q ≡ k
    → task_of w j < task_of w y → ⊥
unfolding waits_at
no_low_grant w t k q y j lawful granted asks home lower = elim (cases_Bool (is_job j (held_before w t q))) [
  | inl held ↦ omega (arith, granted.above q a.within home (kept_from w t q j (job_named j _ held) asks), a.ceiling)
  | inr free ↦ omega (arith, granted.first j (requester_listed w t q j asks) (waits free))
] where
  a : HoldsAt w t q j
  a = requester_facts w t q j lawful asks

  waits : is_job j (held_before w t q) ≡ false → waits_at w t k j ≡ true
  waits free =
      let off : holds_by (held_before w t) j (phase_of w t j) ≡ false = rw a.request free in
      and_from _ _ (rw (← home) (request_at_from w t j a.number q a.active a.request)) (not_from_false _ off)

-- A lower job that holds a resource there at v held it since u, if j was in its request since then.
pub held_since : (w : Trace) (n u v q r y j : ℕ) → AreLawfulJobs (jobs_of w) → KeepsBefore dpcp_rule w n → v < n → Asks w u v q j
    → home_of w q ≡ home_of w r → task_of w j < task_of w y → holder_in (w.row v) r ≡ Some y
    → (t : ℕ) → u ≤ t → t ≤ v → holder_in (w.row t) r ≡ Some y
held_since w n u v q r y j lawful keeps l asks home lower holds =
    held_back w u v r y
    (λ s from before held new. no_low_grant w (suc s) (home_of w r) q y j lawful
    (new_granted w (suc s) r y (keeps (suc s) (omega arith) rule.Grant) held new) (asks.asks (suc s) (omega arith) before) home lower)
    holds

-- Why a tick that isn't charged by preemption is.
pub home_blocked : (w : Trace) (t j r : ℕ) (c : Class) → is_preemption c ≡ false → DpcpReason w t j c r → HomeBlocked w t j r
home_blocked w t j r Direct e why = why.blocked
home_blocked w t j r Indirect e why = why.blocked
home_blocked w t j r Preemption e why = absurd (cc)

-- A lower request runs where job j waits.
pub low_runner : (w : Trace) (t j r : ℕ) → (b : HomeBlocked w t j r) → task_of w j < task_of w r
    → LowRunner w t (home_of w b.resource) j r
low_runner w t j r b lower =
    record {
      runner = b.runner;
      active = b.active;
      number = b.number;
      resource = b.resource;
      request = b.request;
      home = refl;
      lower = lower;
    }

-- Two lower jobs that run there while j is in one request are the same job. It holds one request throughout.
pub record OneHolder (w : Trace) (u v r i k : ℕ) : Type 0 where
  pub job : i ≡ k
  pub holds : (t : ℕ) → u ≤ t → t ≤ v → holder_in (w.row t) r ≡ Some k

pub one_holder : (w : Trace) (n u v q j i k : ℕ) → AreLawfulJobs (jobs_of w) → KeepsBefore dpcp_rule w n → v < n → Asks w u v q j
    → LowRunner w u (home_of w q) j i → (late : LowRunner w v (home_of w q) j k)
    → OneHolder w u v late.runner.resource i k
one_holder w n u v q j i k lawful keeps l asks early late = record { job = job; holds = since } where
  r : ℕ
  r = late.runner.resource

  since : (t : ℕ) → u ≤ t → t ≤ v → holder_in (w.row t) r ≡ Some k
  since = held_since w n u v q r k j lawful keeps l asks (sym late.runner.home) late.lower late.runner.holder

  holds : holder_in (w.row u) r ≡ Some k
  holds = since u (omega arith) asks.order

  here : u < n
  here = let o : u ≤ v = asks.order in omega arith

  a : HoldsAt w u r k
  a = holder_facts w n u r k lawful keeps here holds

  order : task_of w i ≤ task_of w k
  order = runs_first w n u (home_of w q) j i r k lawful keeps here early holds late.runner.home

  job : i ≡ k
  job = elim (cases_lt (task_of w i) (task_of w k)) [
    | inr same ↦ one_active w u i k early.runner.active a.active (omega (arith, order, same))
    | inl less ↦
        let above : task_of w i < ceiling_rank w r =
        ordered w n u lawful keeps here early.runner.resource r i k early.runner.holder holds
        (early.runner.home ∙ sym late.runner.home) less in
        let low : ceiling_rank w r ≤ task_of w j = low_ceiling w n v (home_of w q) j k lawful keeps l late in
        absurd (omega (arith, above, low, early.lower))
  ]

-- So it is one request.
pub one_low_request : (w : Trace) (n u v q j i k : ℕ) → AreLawfulJobs (jobs_of w) → KeepsBefore dpcp_rule w n → v < n → Asks w u v q j
    → LowRunner w u (home_of w q) j i → LowRunner w v (home_of w q) j k → OneRequest w u v i k
one_low_request w n u v q j i k lawful keeps l asks early late =
    one_request w n u v i k late.runner.number r (dpcp_runs_active w n keeps) (omega (arith, l, asks.order)) asks.order
    (lawful.each k (active_listed w v k late.runner.active)).script early.runner.active (ap (task_of w) o.job) late.runner.request
    (λ t from before local runs. let a : HoldsAt w t r k =
    holder_facts w n t r k lawful keeps (omega (arith, l, before)) (o.holds t from (omega (arith, before))) in
    let x : Local ≡ Asking a.number r = sym local ∙ a.request in cc) where
      r : ℕ
      r = late.runner.resource

      o : OneHolder w u v r i k
      o = one_holder w n u v q j i k lawful keeps l asks early late

-- The resource whose request runs is the one that is named.
pub runner_resource : (w : Trace) (t k r m q : ℕ) → (a : RunsRequest w t k r) → phase_of w t r ≡ Asking m q → a.resource ≡ q
runner_resource w t k r m q a e = let x : Asking a.number a.resource ≡ Asking m q = sym a.request ∙ e in cc

-- A charge whose column is of a lower task, at home k, and not by preemption.
pub record HomeColumn (w : Trace) (i k y r : ℕ) (c : Class) : Type 0 where
  pub class : is_preemption c ≡ false
  pub lower : i < task_of w y
  pub home : home_of w r ≡ k

-- The row of homes.
pub home_row_met : (w : Trace) (bound : ℕ → ℕ) (n j k : ℕ) → Window dpcp_charge w bound n j → KeepsBefore dpcp_rule w n
    → TicksMeet dpcp_charge w bound n j (home_row w.set (task_of w j) k)
home_row_met w bound n j k window keeps s share fair =
    by_number dpcp_charge w bound n j s share f (λ q. home_in w.set q == k) window
    (record {
      fair = fair;
      small = λ c. flag_times-at_most
          ((not (is_preemption c.class) && nat_lt (task_of w j) c.task) && (home_in w.set c.resource == k))
          (share c.task c.resource);
    })
    (λ t l h. let b : HomeBlocked w t j h.charge.job = blocked t (omega arith) h in
    record {
      number = b.number;
      resource = b.resource;
      request = b.request;
      passes = eq-eqb (home_of w b.resource) k (sym b.runner.home ∙ ap (home_of w) (same_resource t h b) ∙ (column t h).home);
    })
    one where
      f : ColumnDef → ℕ
      f = λ c. flag ((not (is_preemption c.class) && nat_lt (task_of w j) c.task) &&
          (home_in w.set c.resource == k)) * share c.task c.resource

      column : (t : ℕ) → (h : Hit dpcp_charge w f j t) → HomeColumn w (task_of w j) k h.charge.job h.resource h.charge.class
      column t h =
          let parts : ((not (is_preemption h.charge.class) && nat_lt (task_of w j) (task_of w h.charge.job)) ≡ true)
          × ((home_in w.set h.resource == k) ≡ true) =
          and_parts _ _ (flag_times-passes
          ((not (is_preemption h.charge.class) && nat_lt (task_of w j) (task_of w h.charge.job)) && (home_in w.set h.resource == k))
          (share (task_of w h.charge.job) h.resource) h.some) in
          let both : (not (is_preemption h.charge.class) ≡ true) × (nat_lt (task_of w j) (task_of w h.charge.job) ≡ true) =
          and_parts _ _ parts.0 in
          record { class = not-true _ both.0; lower = ltb-true _ _ both.1; home = eqb-true _ _ parts.1 }

      blocked : (t : ℕ) → t < n → (h : Hit dpcp_charge w f j t) → HomeBlocked w t j h.charge.job
      blocked t l h = home_blocked w t j h.charge.job h.charge.class (column t h).class (dpcp_reason w t j h.charge (keeps t l) h.is_it)

      same_resource : (t : ℕ) → (h : Hit dpcp_charge w f j t) → (b : HomeBlocked w t j h.charge.job) → b.runner.resource ≡ h.resource
      same_resource t h b = runner_resource w t (home_of w b.resource) h.charge.job h.number h.resource b.runner h.request

      one : (u v m a b : ℕ) → u ≤ v → v < window_end w bound n j → (g : Hit dpcp_charge w f j u) → (h : Hit dpcp_charge w f j v)
          → phase_of w u j ≡ Asking m a → phase_of w v j ≡ Asking m b
          → OneRequest w u v g.charge.job h.charge.job
      one u v m a b order l g h early late =
          let mine : HomeBlocked w u j g.charge.job = blocked u (omega arith) g in
          let later : HomeBlocked w v j h.charge.job = blocked v (omega arith) h in
          let x : Asking m a ≡ Asking mine.number mine.resource = sym early ∙ mine.request in
          let resource : a ≡ mine.resource = cc in
          let y : Asking m b ≡ Asking later.number later.resource = sym late ∙ later.request in
          let last : b ≡ later.resource = cc in
          let first : phase_of w u j ≡ Asking m mine.resource = early ∙ ap (Asking m) resource in
          let same : later.resource ≡ mine.resource = sym last ∙ sym (one_resource w u v j m mine.resource b first late) in
          let asks : Asks w u v mine.resource j = asks_between w u v m mine.resource b j order mine.active first late in
          let low : LowRunner w v (home_of w mine.resource) j h.charge.job =
          subst (λ (z : ℕ). LowRunner w v (home_of w z) j h.charge.job) same (low_runner w v j h.charge.job later (column v h).lower) in
          one_low_request w n u v mine.resource j g.charge.job h.charge.job window.lawful keeps (omega arith) asks
          (low_runner w u j g.charge.job mine (column u g).lower) low
