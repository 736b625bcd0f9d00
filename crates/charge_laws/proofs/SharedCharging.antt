-- Charging under shared memory, whatever the order of grants and runs: each blocked tick is charged to a request that
-- executes, for one of three reasons.
use Rattle.std.proofs.Common.{◌≡◌, ℕ, ◌<◌, ◌≤◌, true, false, length, refl, sym, subst, ◌∙◌, arith, inl, inr, Some, None}
use Rattle.std.specs.Option.{option_map_or}
use Rattle.std.proofs.lemmas.Bool.{cases_lt, cases_Bool, both_ways, and_from}
use Rattle.sporadic_model.specs.SetDef.{is_higher_local}
use Rattle.schedule_model.specs.declared.rule.Rule.TheVariants as rule
use Rattle.schedule_model.specs.RowDef.{Trace, running_on, holder_in, runs_in}
use Rattle.schedule_model.specs.Phase.{Phase, is_finished, phase_of}
use Rattle.schedule_model.specs.Phase.Phase.{Local, Asking, Finished}
use Rattle.schedule_model.specs.Activity.{task_of, processor_of, is_active, is_ready_holder, is_ready}
use Rattle.schedule_model.specs.SharedRules.{Ranks, KeepsRun, KeepsGrant, KeepsPriority}
use Rattle.schedule_model.specs.Protocols.{shared_rule}
use Rattle.schedule_model.specs.Keeping.{KeepsRow}
use Rattle.schedule_model.specs.BlockedTicks.{is_delayed, runs_higher, is_shared_interference, is_blocked}
use Rattle.schedule_laws.proofs.ActiveJobs.{Active, active_is, one_active, Requester, requester_is, requester_from, active_local_from}
use Rattle.schedule_laws.proofs.Rows.{runs_from, ReadyHolder, ready_holder_is, ready_holder_from, ready_is, ready_local}
use Rattle.schedule_laws.proofs.Rows.{ready_holding, ready_active, ready_listed}
use Rattle.schedule_laws.proofs.RuleUses.{ready_busy, requested_held}
use Rattle.schedule_laws.proofs.KindsOfTicks.{Blocked, blocked_is, delayed_from, higher_local_from}
use Rattle.blocking_columns.specs.declared.columns.Class.{Class}
use Rattle.charge_laws.specs.Charges.{Charge, charge_by_holder, shared_charge, Executes}
use Rattle.blocking_columns.specs.declared.columns.Class.TheVariants.{Direct, Indirect, Preemption}

-- Job j is ready, and job r, a ready holder of a lower task, runs on its processor.
pub record PreemptedBy (w : Trace) (t j r : ℕ) : Type 0 where
  pub ready : is_ready w t j ≡ true
  pub runs : running_on (w.row t) (processor_of w j) ≡ Some r
  pub holds : is_ready_holder w t r ≡ true
  pub lower : task_of w j < task_of w r

-- Job j waits for a resource that job y holds.
pub record WaitsFor (w : Trace) (t j y : ℕ) : Type 0 where
  pub active : is_active w t j ≡ true
  pub other : is_ready w t j ≡ false
  pub number : ℕ
  pub resource : ℕ
  pub request : phase_of w t j ≡ Asking number resource
  pub holder : holder_in (w.row t) resource ≡ Some y
  pub holds : is_ready_holder w t y ≡ true
  pub holding : ℕ
  pub held : phase_of w t y ≡ Asking holding resource

-- It waits for job y, which runs.
pub record DirectBy (w : Trace) (t j y : ℕ) : Type 0 where
  pub waits : WaitsFor w t j y
  pub runs : runs_in (w.row t) y ≡ true

-- It waits for a job that doesn't run, and job r runs on that job's processor: a ready holder that goes first.
pub record IndirectBy (o : Ranks) (w : Trace) (t j r : ℕ) : Type 0 where
  pub first : ℕ
  pub waits : WaitsFor w t j first
  pub stands : runs_in (w.row t) first ≡ false
  pub runs : running_on (w.row t) (processor_of w first) ≡ Some r
  pub holds : is_ready_holder w t r ≡ true
  pub order : o.run w t r ≤ o.run w t first

-- Why a blocked tick of job j is charged to job y with a class.
abbrev pub SharedReason : Ranks → Trace → ℕ → ℕ → Class → ℕ → Type 0
SharedReason o w t j Preemption y = PreemptedBy w t j y
SharedReason o w t j Direct y = DirectBy w t j y
SharedReason o w t j Indirect y = IndirectBy o w t j y

-- What a tick is charged to, and why.
pub record SharedCharged (o : Ranks) (w : Trace) (t j : ℕ) : Type 0 where
  pub charge : Charge
  pub is_it : shared_charge w t j ≡ Some charge
  pub why : SharedReason o w t j charge.class charge.job

-- A job that runs isn't one that doesn't.
other_runner : (w : Trace) (t k j r : ℕ) → runs_in (w.row t) j ≡ false → running_on (w.row t) k ≡ Some r → (r ≡ j) → ⊥
other_runner w t k j r waits e same = both_ways (runs_in (w.row t) j) waits (rw (← same) (runs_from (w.row t) k r e))

-- What runs on the processor of a blocked job is of a lower task.
pub lower_runner : (w : Trace) (t j r : ℕ) → KeepsRun w t → Blocked is_shared_interference w t j
    → running_on (w.row t) (processor_of w j) ≡ Some r → task_of w j < task_of w r
unfolding is_shared_interference runs_higher
lower_runner w t j r run b e = elim (cases_lt (task_of w j) (task_of w r)) [
  | inl less ↦ less
  | inr more ↦ elim (cases_lt (task_of w r) (task_of w j)) [
    | inl higher ↦
        let place : processor_of w j ≡ processor_of w r = run.column (processor_of w j) r e in
        let h : is_higher_local w.set (task_of w j) (task_of w r) ≡ true =
        higher_local_from w.set (task_of w j) (task_of w r) higher (sym place) in
        let there : option_map_or (λ x. is_higher_local w.set (task_of w j) (task_of w x)) (running_on (w.row t) (processor_of w j)) false
        ≡ true = rw e h in
        absurd (both_ways _ b.free (and_from (is_delayed w t j) _ (delayed_from w t j b.active b.waits) there))
    | inr same ↦
        absurd (other_runner w t (processor_of w j) j r b.waits e
        (one_active w t r j (ready_active w t r (run.ready (processor_of w j) r e)) b.active (omega arith)))
  ]
]

-- If a job runs while a job of a higher task of its processor is ready, it is a holder.
pub runner_holds : (o : Ranks) (w : Trace) (t j r : ℕ) → KeepsPriority o w t → is_ready w t j ≡ true
    → running_on (w.row t) (processor_of w j) ≡ Some r → task_of w j < task_of w r → is_ready_holder w t r ≡ true
runner_holds o w t j r priority ready e lower = elim (cases_Bool (is_ready_holder w t r)) [
  | inl holds ↦ holds
  | inr fails ↦ elim (ready_is w t j ready) [
    | inr holds ↦ (priority.holders (processor_of w j) r e j (ready_listed w t j ready) refl holds).0
    | inl local ↦ absurd
        (omega (arith, priority.locals (processor_of w j) r e (λ i l same. none fails i l same) j (ready_listed w t j ready) refl local))
  ]
] where
  none : is_ready_holder w t r ≡ false → (i : ℕ) → i < length w.jobs → processor_of w i ≡ processor_of w j → is_ready_holder w t i ≡ false
  none off i l same = elim (cases_Bool (is_ready_holder w t i)) [
    | inr fails ↦ fails
    | inl holds ↦ absurd (both_ways (is_ready_holder w t r) off (priority.holders (processor_of w j) r e i l same holds).0)
  ]

-- The charge of a blocked job that is ready.
charged_ready : (o : Ranks) (w : Trace) (t j : ℕ) → KeepsRow (shared_rule o) w t → is_blocked is_shared_interference w t j ≡ true
    → is_ready w t j ≡ true → SharedCharged o w t j
unfolding shared_charge
charged_ready o w t j keeps blocked ready =
    let b : Blocked is_shared_interference w t j = blocked_is is_shared_interference w t j blocked in
    let busy : (r : ℕ) × (running_on (w.row t) (processor_of w j) ≡ Some r) = ready_busy w t j (keeps rule.Idle) ready in
    let lower : task_of w j < task_of w busy.0 = lower_runner w t j busy.0 (keeps rule.Run) b busy.1 in
    record {
      charge = record { job = busy.0; class = Preemption };
      is_it = rw (blocked, ready, busy.1) refl;
      why = record {
        ready = ready;
        runs = busy.1;
        holds = runner_holds o w t j busy.0 (keeps rule.Priority) ready busy.1 lower;
        lower = lower;
      };
    }

-- A blocked job that isn't ready waits for a holder.
pub waits_for : (o : Ranks) (w : Trace) (t j : ℕ) → KeepsGrant o w t → is_active w t j ≡ true → is_ready w t j ≡ false
    → (y : ℕ) × WaitsFor w t j y
waits_for o w t j grant active off = go (phase_of w t j) refl where
  go : (p : Phase) → phase_of w t j ≡ p → (y : ℕ) × WaitsFor w t j y
  go Local e = absurd (both_ways (is_ready w t j) off (ready_local w t j (active_local_from w t j active e)))
  go Finished e =
      let a : Active w t j = active_is w t j active in
      let x : is_finished (phase_of w t j) ≡ true = rw e refl in
      absurd (both_ways _ a.unfinished x)
  go (Asking n q) e =
      let held : (y : ℕ) × (holder_in (w.row t) q ≡ Some y) = requested_held o w t q j grant (requester_from w t q j n active e) in
      let asks : Requester w t q held.0 = requester_is w t q held.0 (grant.requests q held.0 held.1) in (
        held.0,
        record {
          active = active;
          other = off;
          number = n;
          resource = q;
          request = e;
          holder = held.1;
          holds = ready_holder_from w t held.0 asks.number q asks.active asks.phase held.1;
          holding = asks.number;
          held = asks.phase;
        },
      )

-- To what a waiting job is charged is read from its holder.
waiting_charge : (w : Trace) (t j y : ℕ) → is_blocked is_shared_interference w t j ≡ true → WaitsFor w t j y
    → shared_charge w t j ≡ charge_by_holder w t y
unfolding shared_charge
waiting_charge w t j y blocked waits = rw (blocked, waits.other, waits.request, waits.holder) refl

-- The charge of a blocked job that waits.
charged_waiting : (o : Ranks) (w : Trace) (t j : ℕ) → KeepsRow (shared_rule o) w t → is_blocked is_shared_interference w t j ≡ true
    → is_ready w t j ≡ false → SharedCharged o w t j
charged_waiting o w t j keeps blocked off = elim (cases_Bool (runs_in (w.row t) y)) [
  | inl runs ↦ record {
    charge = record { job = y; class = Direct };
    is_it = waiting_charge w t j y blocked waits ∙ rw runs refl;
    why = record { waits = waits; runs = runs };
  }
  | inr stands ↦
      let busy : (r : ℕ) × (running_on (w.row t) (processor_of w y) ≡ Some r) =
      ready_busy w t y (keeps rule.Idle) (ready_holding w t y waits.holds) in
      let priority : KeepsPriority o w t = keeps rule.Priority in
      let first : (is_ready_holder w t busy.0 ≡ true) × (o.run w t busy.0 ≤ o.run w t y) =
      priority.holders (processor_of w y) busy.0 busy.1 y (ready_listed w t y (ready_holding w t y waits.holds)) refl waits.holds in
      record {
        charge = record { job = busy.0; class = Indirect };
        is_it = waiting_charge w t j y blocked waits ∙ rw (stands, busy.1) refl;
        why = record { first = y; waits = waits; stands = stands; runs = busy.1; holds = first.0; order = first.1 };
      }
] where
  b : Blocked is_shared_interference w t j
  b = blocked_is is_shared_interference w t j blocked

  holder : (y : ℕ) × WaitsFor w t j y
  holder = waits_for o w t j (keeps rule.Grant) b.active off

  y : ℕ
  y = holder.0

  waits : WaitsFor w t j y
  waits = holder.1

-- Each blocked tick is charged, for one of the three reasons.
pub shared_charged : (o : Ranks) (w : Trace) (t j : ℕ) → KeepsRow (shared_rule o) w t → is_blocked is_shared_interference w t j ≡ true
    → SharedCharged o w t j
shared_charged o w t j keeps blocked = elim (cases_Bool (is_ready w t j)) [
  | inl ready ↦ charged_ready o w t j keeps blocked ready
  | inr off ↦ charged_waiting o w t j keeps blocked off
]

-- A tick that isn't blocked is charged to nothing.
pub shared_uncharged : (w : Trace) (t j : ℕ) → is_blocked is_shared_interference w t j ≡ false → shared_charge w t j ≡ None
unfolding shared_charge
shared_uncharged w t j free = rw free refl

-- A tick that is charged is blocked.
pub shared_charge_blocked : (w : Trace) (t j : ℕ) (c : Charge) → shared_charge w t j ≡ Some c
    → is_blocked is_shared_interference w t j ≡ true
shared_charge_blocked w t j c e = elim (cases_Bool (is_blocked is_shared_interference w t j)) [
  | inl blocked ↦ blocked
  | inr free ↦ let x : None ≡ Some c = sym (shared_uncharged w t j free) ∙ e in absurd (cc)
]

-- Each charge has its reason.
pub shared_reason : (o : Ranks) (w : Trace) (t j : ℕ) (c : Charge) → KeepsRow (shared_rule o) w t → shared_charge w t j ≡ Some c
    → SharedReason o w t j c.class c.job
shared_reason o w t j c keeps e =
    let s : SharedCharged o w t j = shared_charged o w t j keeps (shared_charge_blocked w t j c e) in
    let x : Some s.charge ≡ Some c = sym s.is_it ∙ e in
    let same : s.charge ≡ c = cc in
    subst (λ (d : Charge). SharedReason o w t j d.class d.job) same s.why

-- The request of a ready holder that runs executes.
pub holder_executes : (w : Trace) (t y : ℕ) (class : Class) → runs_in (w.row t) y ≡ true → is_ready_holder w t y ≡ true
    → Executes w t (record { job = y; class = class })
holder_executes w t y class runs holds = let h : ReadyHolder w t y = ready_holder_is w t y holds in
    record { runs = runs; number = h.number; resource = h.resource; request = h.phase }

reason_executes : (o : Ranks) (w : Trace) (t j : ℕ) (class : Class) (y : ℕ) → SharedReason o w t j class y
    → Executes w t (record { job = y; class = class })
reason_executes o w t j Preemption y why = holder_executes w t y Preemption (runs_from (w.row t) (processor_of w j) y why.runs) why.holds
reason_executes o w t j Direct y why = holder_executes w t y Direct why.runs why.waits.holds
reason_executes o w t j Indirect y why =
    holder_executes w t y Indirect (runs_from (w.row t) (processor_of w why.first) y why.runs) why.holds

-- The request to which a tick is charged executes.
pub shared_executes : (o : Ranks) (w : Trace) (t j : ℕ) (c : Charge) → KeepsRow (shared_rule o) w t → shared_charge w t j ≡ Some c
    → Executes w t c
shared_executes o w t j c keeps e = reason_executes o w t j c.class c.job (shared_reason o w t j c keeps e)
