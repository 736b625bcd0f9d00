-- Charging if requests run on their resource's home: each blocked tick is charged to a request that runs where the blocked job would run.
-- DPCP is an instance.
use Rattle.std.proofs.Common.{◌≡◌, ℕ, ◌<◌, ◌≤◌, ◌==◌, ◌&&◌, true, false, refl, sym, subst, ◌∙◌, arith, inl, inr, Some, None}
use Rattle.std.specs.Option.{option_map_or}
use Rattle.std.proofs.lemmas.Bool.{cases_lt, cases_Bool, both_ways, and_parts, and_from, eq-eqb, eqb-true}
use Rattle.sporadic_model.specs.SetDef.{is_higher_local}
use Rattle.schedule_model.specs.declared.rule.Rule.TheVariants as rule
use Rattle.schedule_model.specs.RowDef.{Trace, running_on, holder_in, runs_in}
use Rattle.schedule_model.specs.Phase.{Phase, is_local, is_finished, phase_of}
use Rattle.schedule_model.specs.Phase.Phase.{Local, Asking, Finished}
use Rattle.schedule_model.specs.Activity.{task_of, processor_of, is_active, NoLocalIsHigher}
use Rattle.schedule_model.specs.DpcpRules.{home_of, is_at, has_request_at, has_requests, holds_at, KeepsRun, KeepsIdle, RunsFirstHolder, KeepsPriority}
use Rattle.schedule_model.specs.Ranks.{by_task}
use Rattle.schedule_model.specs.Protocols.{dpcp_rule}
use Rattle.schedule_model.specs.Keeping.{KeepsRow}
use Rattle.schedule_model.specs.BlockedTicks.{is_delayed, runs_higher_local, is_dpcp_interference, is_blocked}
use Rattle.schedule_laws.proofs.Ticks.{asking_is}
use Rattle.schedule_laws.proofs.ActiveJobs.{Active, active_is, active_listed, one_active, active_local_from}
use Rattle.schedule_laws.proofs.Rows.{runs_from}
use Rattle.schedule_laws.proofs.RuleUses.{locals_busy, requests_busy, request_among}
use Rattle.schedule_laws.proofs.KindsOfTicks.{Blocked, blocked_is, delayed_from, higher_local_from}
use Rattle.blocking_columns.specs.declared.columns.Class.{Class}
use Rattle.charge_laws.specs.Charges.{Charge, class_at_home, dpcp_charge, Executes}
use Rattle.blocking_columns.specs.declared.columns.Class.TheVariants.{Direct, Indirect, Preemption}

-- Job r runs on processor k, in a request of a resource that has its home there, and holds it.
pub record RunsRequest (w : Trace) (t k r : ℕ) : Type 0 where
  pub runs : running_on (w.row t) k ≡ Some r
  pub active : is_active w t r ≡ true
  pub number : ℕ
  pub resource : ℕ
  pub request : phase_of w t r ≡ Asking number resource
  pub home : home_of w resource ≡ k
  pub holder : holder_in (w.row t) resource ≡ Some r

-- Job j is Local, and a request runs on its processor.
pub record LocalBlocked (w : Trace) (t j r : ℕ) : Type 0 where
  pub active : is_active w t j ≡ true
  pub local : phase_of w t j ≡ Local
  pub runner : RunsRequest w t (processor_of w j) r

-- Job j is in a request and doesn't run, and a request runs on its home.
pub record HomeBlocked (w : Trace) (t j r : ℕ) : Type 0 where
  pub active : is_active w t j ≡ true
  pub waits : runs_in (w.row t) j ≡ false
  pub number : ℕ
  pub resource : ℕ
  pub request : phase_of w t j ≡ Asking number resource
  pub runner : RunsRequest w t (home_of w resource) r

-- The request that runs is of the resource that is requested, or it is of another one.
pub record DirectAtHome (w : Trace) (t j r : ℕ) : Type 0 where
  pub blocked : HomeBlocked w t j r
  pub same : blocked.runner.resource ≡ blocked.resource

pub record IndirectAtHome (w : Trace) (t j r : ℕ) : Type 0 where
  pub blocked : HomeBlocked w t j r
  pub other : (blocked.runner.resource ≡ blocked.resource) → ⊥

-- What a row keeps if requests run on their resource's home, whichever of the holders there runs: the rules Run and Idle of DPCP. And of
-- its Priority: a holder runs where requests are, and else an active Local job of the highest task.
pub record RunsAtHomes (w : Trace) (t : ℕ) : Type 0 where
  pub run : KeepsRun w t
  pub idle : KeepsIdle w t
  pub holder : (k : ℕ) → has_requests w t k ≡ true → (r : ℕ) × (running_on (w.row t) k ≡ Some r) × (holds_at w t k r ≡ true)
  pub locals : (k r : ℕ) → running_on (w.row t) k ≡ Some r → has_requests w t k ≡ false → NoLocalIsHigher w t k r

-- In each row before the n-th.
abbrev pub RunsAtHomesBefore : Trace → ℕ → Type 0
RunsAtHomesBefore w n = (t : ℕ) → t < n → RunsAtHomes w t

pub at_homes : (rank : Trace → ℕ → ℕ → ℕ) (w : Trace) (t : ℕ) → KeepsRun w t → KeepsIdle w t → KeepsPriority rank w t → RunsAtHomes w t
at_homes rank w t run idle priority = record {
  run = run;
  idle = idle;
  holder = λ k h. let first : RunsFirstHolder rank w t k = priority.requests k h in (first.runner, first.runs, first.holds);
  locals = priority.locals;
}

pub dpcp_at_homes : (w : Trace) (t : ℕ) → KeepsRow dpcp_rule w t → RunsAtHomes w t
dpcp_at_homes w t keeps = at_homes by_task w t (keeps rule.Run) (keeps rule.Idle) (keeps rule.Priority)

-- Why a blocked tick of job j is charged to job r with a class.
abbrev pub DpcpReason : Trace → ℕ → ℕ → Class → ℕ → Type 0
DpcpReason w t j Preemption r = LocalBlocked w t j r
DpcpReason w t j Direct r = DirectAtHome w t j r
DpcpReason w t j Indirect r = IndirectAtHome w t j r

-- What a tick is charged to, and why.
pub record DpcpCharged (w : Trace) (t j : ℕ) : Type 0 where
  pub charge : Charge
  pub is_it : dpcp_charge w t j ≡ Some charge
  pub why : DpcpReason w t j charge.class charge.job

-- A job that runs in a request runs on the resource's home and holds the resource.
pub runs_request : (w : Trace) (t k r m q : ℕ) → KeepsRun w t → running_on (w.row t) k ≡ Some r → phase_of w t r ≡ Asking m q
    → RunsRequest w t k r
runs_request w t k r m q run e h =
    let both : (k ≡ home_of w q) × (holder_in (w.row t) q ≡ Some r) = run.request k r q e (asking_is m q (phase_of w t r) h) in
    record { runs = e; active = run.active k r e; number = m; resource = q; request = h; home = sym both.0; holder = both.1 }

-- A job in a request has one at its resource's home.
pub request_at_from : (w : Trace) (t j m q : ℕ) → is_active w t j ≡ true → phase_of w t j ≡ Asking m q
    → has_request_at w t (home_of w q) j ≡ true
unfolding has_request_at
request_at_from w t j m q a e = and_from _ _ a (rw e (eq-eqb (home_of w q) (home_of w q) refl))

-- The phase of a job that has a request at a processor.
pub request_at_is : (w : Trace) (t k j : ℕ) → has_request_at w t k j ≡ true
    → (m : ℕ) × (q : ℕ) × (is_active w t j ≡ true) × (phase_of w t j ≡ Asking m q) × (home_of w q ≡ k)
unfolding has_request_at
request_at_is w t k j h = go (phase_of w t j) refl where
  parts : (is_active w t j ≡ true) × (is_at w k (phase_of w t j) ≡ true)
  parts = and_parts _ _ h

  go : (p : Phase) → phase_of w t j ≡ p → (m : ℕ) × (q : ℕ) × (is_active w t j ≡ true) × (phase_of w t j ≡ Asking m q) × (home_of w q ≡ k)
  go Local e = let x : is_at w k Local ≡ true = rw e at parts.1 in absurd (cc)
  go Finished e = let x : is_at w k Finished ≡ true = rw e at parts.1 in absurd (cc)
  go (Asking m q) e = let x : is_at w k (Asking m q) ≡ true = rw e at parts.1 in (m, q, parts.0, e, eqb-true (home_of w q) k x)

-- If requests are at a processor, one of them runs there.
pub requests_run_home : (w : Trace) (t k r : ℕ) → RunsAtHomes w t → has_requests w t k ≡ true → running_on (w.row t) k ≡ Some r
    → RunsRequest w t k r
unfolding holds_at
requests_run_home w t k r homes h e =
    let first : (y : ℕ) × (running_on (w.row t) k ≡ Some y) × (holds_at w t k y ≡ true) = homes.holder k h in
    let x : Some first.0 ≡ Some r = sym first.1 ∙ e in
    let same : first.0 ≡ r = cc in
    let at : has_request_at w t k first.0 ≡ true = (and_parts (has_request_at w t k first.0) _ first.2).0 in
    let is : (m : ℕ) × (q : ℕ) × (is_active w t first.0 ≡ true) × (phase_of w t first.0 ≡ Asking m q) × (home_of w q ≡ k) =
    request_at_is w t k first.0 at in
    runs_request w t k r is.0 is.1 homes.run e (rw (← same) is.3)

-- A Local job of a higher task of a blocked job's processor doesn't run there.
no_higher_local : (w : Trace) (t j r : ℕ) → KeepsRun w t → Blocked is_dpcp_interference w t j
    → running_on (w.row t) (processor_of w j) ≡ Some r → phase_of w t r ≡ Local → task_of w r < task_of w j → ⊥
unfolding is_dpcp_interference runs_higher_local
no_higher_local w t j r run b e local higher =
    let is : is_local (phase_of w t r) ≡ true = rw local refl in
    let place : processor_of w j ≡ processor_of w r = run.local (processor_of w j) r e is in
    let h : is_higher_local w.set (task_of w j) (task_of w r) ≡ true =
    higher_local_from w.set (task_of w j) (task_of w r) higher (sym place) in
    let there : option_map_or (λ x. is_higher_local w.set (task_of w j) (task_of w x) && is_local (phase_of w t x))
    (running_on (w.row t) (processor_of w j)) false ≡ true = rw e (and_from _ _ h is) in
    both_ways _ b.free (and_from (is_delayed w t j) _ (delayed_from w t j b.active b.waits) there)

-- What runs on the processor of a blocked Local job is a request.
pub local_blocked : (w : Trace) (t j r : ℕ) → RunsAtHomes w t → Blocked is_dpcp_interference w t j → phase_of w t j ≡ Local
    → running_on (w.row t) (processor_of w j) ≡ Some r → RunsRequest w t (processor_of w j) r
local_blocked w t j r homes b local e = elim (cases_Bool (has_requests w t (processor_of w j))) [
  | inl some ↦ requests_run_home w t (processor_of w j) r homes some e
  | inr none ↦ go none (phase_of w t r) refl
] where
  run : KeepsRun w t
  run = homes.run

  active : is_active w t r ≡ true
  active = run.active (processor_of w j) r e

  go : has_requests w t (processor_of w j) ≡ false → (p : Phase) → phase_of w t r ≡ p → RunsRequest w t (processor_of w j) r
  go none (Asking m q) h = runs_request w t (processor_of w j) r m q run e h
  go none Finished h =
      let a : Active w t r = active_is w t r active in
      let x : is_finished (phase_of w t r) ≡ true = rw h refl in
      absurd (both_ways _ a.unfinished x)
  go none Local h =
      let order : task_of w r ≤ task_of w j =
      homes.locals (processor_of w j) r e none j (active_listed w t j b.active) refl (active_local_from w t j b.active local) in
      elim (cases_lt (task_of w r) (task_of w j)) [
        | inl higher ↦ absurd (no_higher_local w t j r run b e h higher)
        | inr same ↦
            let one : r ≡ j = one_active w t r j active b.active (omega arith) in
            let runs : runs_in (w.row t) j ≡ true = rw (← one) (runs_from (w.row t) (processor_of w j) r e) in
            absurd (both_ways _ b.waits runs)
      ]

-- The charge of a blocked Local job.
charged_local : (w : Trace) (t j : ℕ) → RunsAtHomes w t → is_blocked is_dpcp_interference w t j ≡ true → phase_of w t j ≡ Local
    → DpcpCharged w t j
unfolding dpcp_charge
charged_local w t j homes blocked local =
    let b : Blocked is_dpcp_interference w t j = blocked_is is_dpcp_interference w t j blocked in
    let busy : (r : ℕ) × (running_on (w.row t) (processor_of w j) ≡ Some r) =
    locals_busy w t j homes.idle (active_local_from w t j b.active local) in
    record {
      charge = record { job = busy.0; class = Preemption };
      is_it = rw (blocked, local, busy.1) refl;
      why = record { active = b.active; local = local; runner = local_blocked w t j busy.0 homes b local busy.1 };
    }

home_charge : (w : Trace) (t j n q r : ℕ) → is_blocked is_dpcp_interference w t j ≡ true → phase_of w t j ≡ Asking n q
    → running_on (w.row t) (home_of w q) ≡ Some r
    → dpcp_charge w t j ≡ Some (record { job = r; class = class_at_home q (phase_of w t r) })
unfolding dpcp_charge
home_charge w t j n q r blocked request e = rw (blocked, request, e) refl

-- The charge of a blocked job that is in a request.
charged_at_home : (w : Trace) (t j n q : ℕ) → RunsAtHomes w t → is_blocked is_dpcp_interference w t j ≡ true
    → phase_of w t j ≡ Asking n q → DpcpCharged w t j
charged_at_home w t j n q homes blocked request = elim (cases_Bool (runner.resource == q)) [
  | inl same ↦ record {
    charge = record { job = r; class = Direct };
    is_it = home_charge w t j n q r blocked request busy.1 ∙ rw (runner.request, same) refl;
    why = record { blocked = there; same = eqb-true runner.resource q same };
  }
  | inr other ↦ record {
    charge = record { job = r; class = Indirect };
    is_it = home_charge w t j n q r blocked request busy.1 ∙ rw (runner.request, other) refl;
    why = record { blocked = there; other = λ e. both_ways (runner.resource == q) other (eq-eqb runner.resource q e) };
  }
] where
  b : Blocked is_dpcp_interference w t j
  b = blocked_is is_dpcp_interference w t j blocked

  requests : has_requests w t (home_of w q) ≡ true
  requests = request_among w t (home_of w q) j (active_listed w t j b.active) (request_at_from w t j n q b.active request)

  busy : (r : ℕ) × (running_on (w.row t) (home_of w q) ≡ Some r)
  busy = requests_busy w t (home_of w q) homes.idle requests

  r : ℕ
  r = busy.0

  runner : RunsRequest w t (home_of w q) r
  runner = requests_run_home w t (home_of w q) r homes requests busy.1

  there : HomeBlocked w t j r
  there = record { active = b.active; waits = b.waits; number = n; resource = q; request = request; runner = runner }

-- Each blocked tick is charged, for one of the three reasons.
pub home_charged : (w : Trace) (t j : ℕ) → RunsAtHomes w t → is_blocked is_dpcp_interference w t j ≡ true → DpcpCharged w t j
home_charged w t j homes blocked = go (phase_of w t j) refl where
  go : (p : Phase) → phase_of w t j ≡ p → DpcpCharged w t j
  go Local e = charged_local w t j homes blocked e
  go (Asking n q) e = charged_at_home w t j n q homes blocked e
  go Finished e =
      let b : Blocked is_dpcp_interference w t j = blocked_is is_dpcp_interference w t j blocked in
      let a : Active w t j = active_is w t j b.active in
      let x : is_finished (phase_of w t j) ≡ true = rw e refl in
      absurd (both_ways _ a.unfinished x)

pub dpcp_charged : (w : Trace) (t j : ℕ) → KeepsRow dpcp_rule w t → is_blocked is_dpcp_interference w t j ≡ true → DpcpCharged w t j
dpcp_charged w t j keeps blocked = home_charged w t j (dpcp_at_homes w t keeps) blocked

-- A tick that isn't blocked is charged to nothing.
pub dpcp_uncharged : (w : Trace) (t j : ℕ) → is_blocked is_dpcp_interference w t j ≡ false → dpcp_charge w t j ≡ None
unfolding dpcp_charge
dpcp_uncharged w t j free = rw free refl

-- A tick that is charged is blocked.
pub dpcp_charge_blocked : (w : Trace) (t j : ℕ) (c : Charge) → dpcp_charge w t j ≡ Some c → is_blocked is_dpcp_interference w t j ≡ true
dpcp_charge_blocked w t j c e = elim (cases_Bool (is_blocked is_dpcp_interference w t j)) [
  | inl blocked ↦ blocked
  | inr free ↦ let x : None ≡ Some c = sym (dpcp_uncharged w t j free) ∙ e in absurd (cc)
]

-- Each charge has its reason.
pub home_reason : (w : Trace) (t j : ℕ) (c : Charge) → RunsAtHomes w t → dpcp_charge w t j ≡ Some c → DpcpReason w t j c.class c.job
home_reason w t j c homes e =
    let s : DpcpCharged w t j = home_charged w t j homes (dpcp_charge_blocked w t j c e) in
    let x : Some s.charge ≡ Some c = sym s.is_it ∙ e in
    let same : s.charge ≡ c = cc in
    subst (λ (d : Charge). DpcpReason w t j d.class d.job) same s.why

pub dpcp_reason : (w : Trace) (t j : ℕ) (c : Charge) → KeepsRow dpcp_rule w t → dpcp_charge w t j ≡ Some c
    → DpcpReason w t j c.class c.job
dpcp_reason w t j c keeps e = home_reason w t j c (dpcp_at_homes w t keeps) e

request_executes : (w : Trace) (t k r : ℕ) (class : Class) → RunsRequest w t k r → Executes w t (record { job = r; class = class })
request_executes w t k r class a =
    record { runs = runs_from (w.row t) k r a.runs; number = a.number; resource = a.resource; request = a.request }

reason_executes : (w : Trace) (t j : ℕ) (class : Class) (r : ℕ) → DpcpReason w t j class r
    → Executes w t (record { job = r; class = class })
reason_executes w t j Preemption r why = request_executes w t (processor_of w j) r Preemption why.runner
reason_executes w t j Direct r why = request_executes w t (home_of w why.blocked.resource) r Direct why.blocked.runner
reason_executes w t j Indirect r why = request_executes w t (home_of w why.blocked.resource) r Indirect why.blocked.runner

-- The request to which a tick is charged executes.
pub home_executes : (w : Trace) (t j : ℕ) (c : Charge) → RunsAtHomes w t → dpcp_charge w t j ≡ Some c → Executes w t c
home_executes w t j c homes e = reason_executes w t j c.class c.job (home_reason w t j c homes e)

pub dpcp_executes : (w : Trace) (t j : ℕ) (c : Charge) → KeepsRow dpcp_rule w t → dpcp_charge w t j ≡ Some c → Executes w t c
dpcp_executes w t j c keeps e = home_executes w t j c (dpcp_at_homes w t keeps) e
