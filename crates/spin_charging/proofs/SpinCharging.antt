-- Why a blocked tick is charged as it is.
use Rattle.std.proofs.Common.{◌≡◌, ℕ, ◌<◌, ◌==◌, true, false, length, refl, sym, ap, subst, ◌∙◌, inl, inr}
use Rattle.std.proofs.Common.{Option, Some, None}
use Rattle.std.specs.Option.{option_map_or, option_and_then}
use Rattle.std.proofs.lemmas.Bool.{cases_Bool, both_ways, and_parts, and_from, eq-eqb, eqb-true}
use Rattle.number_laws.specs.Tests.{found_below}
use Rattle.number_laws.proofs.TestLaws.{found_below-is, found_below-none}
use Rattle.sporadic_model.specs.SetDef.{task_at}
use Rattle.schedule_model.specs.declared.rule.Rule.TheVariants as rule
use Rattle.schedule_model.specs.LawfulJobs.{AreLawfulJobs}
use Rattle.schedule_model.specs.RowDef.{Trace, jobs_of, running_on, holder_in}
use Rattle.schedule_model.specs.Phase.{phase_of}
use Rattle.schedule_model.specs.Phase.Phase.{Asking}
use Rattle.schedule_model.specs.Activity.{task_of, processor_of, is_active, active_job_of, is_ready_holder, is_ready}
use Rattle.schedule_model.specs.SharedRules.{KeepsRun, KeepsGrant}
use Rattle.schedule_model.specs.Ranks.{fmlp_plus}
use Rattle.schedule_model.specs.Keeping.{KeepsRow, KeepsBefore}
use Rattle.schedule_model.specs.BlockedTicks.{is_shared_interference, is_blocked}
use Rattle.schedule_laws.proofs.ActiveJobs.{active_job_is, active_job_from, active_listed, ActiveLocal, active_local_is}
use Rattle.schedule_laws.proofs.ActiveJobs.{Requester, requester_is, requester_from}
use Rattle.schedule_laws.proofs.Rows.{runs_from, ready_is, ready_listed}
use Rattle.schedule_laws.proofs.RuleUses.{requested_held}
use Rattle.schedule_laws.proofs.KindsOfTicks.{Blocked, blocked_is}
use Rattle.blocking_columns.specs.declared.columns.Class.{Class}
use Rattle.blocking_columns.specs.declared.columns.Class.TheVariants.{Direct, Indirect, Preemption}
use Rattle.charge_laws.specs.Charges.{Charge, Executes}
use Rattle.charge_laws.proofs.SharedCharging.{lower_runner, holder_executes}
use Rattle.spin_rules.specs.SpinRules.{spins, has_spinner, KeepsIdle, spin_rule}
use Rattle.spin_rules.proofs.InRequests.{Spinning, spinning_is, waiting_spins, spinner_is}
use Rattle.spin_rules.proofs.SpinFacts.{holder_runs, no_lower_local}
use Rattle.spin_charging.specs.SpinCharges.{is_spinning_task, spinner_on, spin_charge}

-- What spins on a processor is a job of its tasks that spins.
pub spinner_on_is : (w : Trace) (t k s : ℕ) → spinner_on w t k ≡ Some s → (processor_of w s ≡ k) × (spins w t s ≡ true)
unfolding spinner_on
spinner_on_is w t k s e = go (found_below (length w.set.tasks) (is_spinning_task w t k)) refl e where
  by_job : (x : ℕ) → active_job_of w t x ≡ Some s → is_spinning_task w t k x ≡ true → (processor_of w s ≡ k) × (spins w t s ≡ true)
  by_job x f h =
      let own : (is_active w t s ≡ true) × (task_of w s ≡ x) = active_job_is w t x s f in
      let parts : (((task_at w.set x).processor == k) ≡ true) × (option_map_or (spins w t) (active_job_of w t x) false ≡ true) =
      and_parts _ _ h in
      let there : option_map_or (spins w t) (Some s) false ≡ true = rw f at parts.1 in
      (ap (λ z. (task_at w.set z).processor) own.1 ∙ eqb-true _ _ parts.0, there)

  go : (o : Option ℕ) → found_below (length w.set.tasks) (is_spinning_task w t k) ≡ o → option_and_then (active_job_of w t) o ≡ Some s
      → (processor_of w s ≡ k) × (spins w t s ≡ true)
  go None f h = absurd (cc)
  go (Some x) f h = by_job x h (found_below-is (length w.set.tasks) (is_spinning_task w t k) x f).1

-- Where a job of a processor's tasks spins, one is found.
pub spinner_on_some : (w : Trace) (t k i : ℕ) → AreLawfulJobs (jobs_of w) → processor_of w i ≡ k → spins w t i ≡ true
    → (s : ℕ) × (spinner_on w t k ≡ Some s)
unfolding spinner_on
spinner_on_some w t k i lawful place h = go (found_below (length w.set.tasks) (is_spinning_task w t k)) refl where
  a : Spinning w t i
  a = spinning_is w t i h

  mine : active_job_of w t (task_of w i) ≡ Some i
  mine = active_job_from w t (task_of w i) i a.active refl

  passes : is_spinning_task w t k (task_of w i) ≡ true
  passes = and_from _ _ (eq-eqb _ _ place) (rw mine h)

  some : (x : ℕ) (o : Option ℕ) → active_job_of w t x ≡ o → option_map_or (spins w t) o false ≡ true
      → (s : ℕ) × (active_job_of w t x ≡ Some s)
  some x None e f = absurd (cc)
  some x (Some s) e f = (s, e)

  go : (o : Option ℕ) → found_below (length w.set.tasks) (is_spinning_task w t k) ≡ o
      → (s : ℕ) × (option_and_then (active_job_of w t) (found_below (length w.set.tasks) (is_spinning_task w t k)) ≡ Some s)
  go None e = absurd (both_ways (is_spinning_task w t k (task_of w i))
      (found_below-none (length w.set.tasks) (is_spinning_task w t k) e (task_of w i)
      (lawful.each i (active_listed w t i a.active)).task) passes)
  go (Some x) e =
      let found : is_spinning_task w t k x ≡ true = (found_below-is (length w.set.tasks) (is_spinning_task w t k) x e).1 in
      let active : (s : ℕ) × (active_job_of w t x ≡ Some s) = some x (active_job_of w t x) refl (and_parts _ _ found).1 in
      (active.0, ap (option_and_then (active_job_of w t)) e ∙ active.1)

-- Job y, a ready holder of a lower task, runs on j's processor.
pub record RunsBelow (w : Trace) (t j y : ℕ) : Type 0 where
  pub active : is_active w t j ≡ true
  pub runs : running_on (w.row t) (processor_of w j) ≡ Some y
  pub holds : is_ready_holder w t y ≡ true
  pub lower : task_of w j < task_of w y

-- Job s of processor k's tasks spins for a resource that job y holds.
pub record SpunBy (w : Trace) (t k s y : ℕ) : Type 0 where
  pub found : spinner_on w t k ≡ Some s
  pub active : is_active w t s ≡ true
  pub processor : processor_of w s ≡ k
  pub number : ℕ
  pub resource : ℕ
  pub request : phase_of w t s ≡ Asking number resource
  pub holder : holder_in (w.row t) resource ≡ Some y
  pub other : (y ≡ s) → ⊥

-- Why a blocked tick of job j is charged to job y with a class.
abbrev pub SpinReason : Trace → ℕ → ℕ → Class → ℕ → Type 0
SpinReason w t j Preemption y = RunsBelow w t j y
SpinReason w t j Direct y = SpunBy w t (processor_of w j) j y
SpinReason w t j Indirect y = (s : ℕ) × ((s ≡ j) → ⊥) × SpunBy w t (processor_of w j) s y

-- What a tick is charged to, and why.
pub record SpinCharged (w : Trace) (t j : ℕ) : Type 0 where
  pub charge : Charge
  pub is_it : spin_charge w t j ≡ Some charge
  pub why : SpinReason w t j charge.class charge.job

-- What runs on the processor of a blocked job is a ready holder of a lower task.
runs_below : (w : Trace) (t j r : ℕ) → KeepsRow spin_rule w t → Blocked is_shared_interference w t j
    → running_on (w.row t) (processor_of w j) ≡ Some r → RunsBelow w t j r
runs_below w t j r keeps b e = record { active = b.active; runs = e; holds = holds; lower = lower } where
  run : KeepsRun w t
  run = keeps rule.Run

  lower : task_of w j < task_of w r
  lower = lower_runner w t j r run b e

  holds : is_ready_holder w t r ≡ true
  holds = elim (ready_is w t r (run.ready (processor_of w j) r e)) [
    | inr there ↦ there
    | inl local ↦
        let a : ActiveLocal w t r = active_local_is w t r local in
        absurd (no_lower_local w t j r keeps b.active lower (sym (run.column (processor_of w j) r e)) a.phase
        (runs_from (w.row t) (processor_of w j) r e))
  ]

-- Where the processor of a blocked job runs nothing, a job there spins.
some_spinner : (w : Trace) (t j : ℕ) → AreLawfulJobs (jobs_of w) → KeepsRow spin_rule w t → is_active w t j ≡ true
    → running_on (w.row t) (processor_of w j) ≡ None → (s : ℕ) × (spinner_on w t (processor_of w j) ≡ Some s)
some_spinner w t j lawful keeps active e = elim (cases_Bool (is_ready w t j)) [
  | inr off ↦ spinner_on_some w t (processor_of w j) j lawful refl (waiting_spins w t j active off)
  | inl ready ↦ elim (cases_Bool (has_spinner w t (processor_of w j))) [
    | inl some ↦
        let at : (i : ℕ) × (processor_of w i ≡ processor_of w j) × (spins w t i ≡ true) = spinner_is w t (processor_of w j) some in
        spinner_on_some w t (processor_of w j) at.0 lawful at.1 at.2
    | inr none ↦
        let idle : KeepsIdle w t = keeps rule.Idle in
        absurd (both_ways (is_ready w t j) (idle (processor_of w j) e none j (ready_listed w t j ready) refl) ready)
  ]
]

-- A job that spins does so for a holder.
pub spun_by : (w : Trace) (t k s : ℕ) → KeepsGrant fmlp_plus w t → spinner_on w t k ≡ Some s → (y : ℕ) × SpunBy w t k s y
spun_by w t k s grant e =
    let at : (processor_of w s ≡ k) × (spins w t s ≡ true) = spinner_on_is w t k s e in
    let a : Spinning w t s = spinning_is w t s at.1 in
    let held : (y : ℕ) × (holder_in (w.row t) a.resource ≡ Some y) =
    requested_held fmlp_plus w t a.resource s grant (requester_from w t a.resource s a.number a.active a.phase) in (
      held.0,
      record {
        found = e;
        active = a.active;
        processor = at.0;
        number = a.number;
        resource = a.resource;
        request = a.phase;
        holder = held.1;
        other = λ same. a.waits (held.1 ∙ ap (λ i. Some i) same);
      },
    )

-- Each blocked tick is charged, for one of the three reasons.
pub spin_charged : (w : Trace) (t j : ℕ) → AreLawfulJobs (jobs_of w) → KeepsRow spin_rule w t
    → is_blocked is_shared_interference w t j ≡ true → SpinCharged w t j
unfolding spin_charge
spin_charged w t j lawful keeps blocked = go (running_on (w.row t) (processor_of w j)) refl where
  b : Blocked is_shared_interference w t j
  b = blocked_is is_shared_interference w t j blocked

  by_spinner : (s y : ℕ) → running_on (w.row t) (processor_of w j) ≡ None → SpunBy w t (processor_of w j) s y → SpinCharged w t j
  by_spinner s y e a = elim (cases_Bool (s == j)) [
    | inl same ↦
        let own : s ≡ j = eqb-true s j same in
        record {
          charge = record { job = y; class = Direct };
          is_it = rw (blocked, e, a.found, a.request, a.holder, same) refl;
          why = subst (λ z. SpunBy w t (processor_of w j) z y) own a;
        }
    | inr other ↦ record {
      charge = record { job = y; class = Indirect };
      is_it = rw (blocked, e, a.found, a.request, a.holder, other) refl;
      why = (s, λ same. both_ways (s == j) other (eq-eqb s j same), a);
    }
  ]

  go : (o : Option ℕ) → running_on (w.row t) (processor_of w j) ≡ o → SpinCharged w t j
  go (Some r) e = record { charge = record { job = r; class = Preemption }; is_it = rw (blocked, e) refl; why = runs_below w t j r keeps b e }
  go None e =
      let some : (s : ℕ) × (spinner_on w t (processor_of w j) ≡ Some s) = some_spinner w t j lawful keeps b.active e in
      let by : (y : ℕ) × SpunBy w t (processor_of w j) some.0 y = spun_by w t (processor_of w j) some.0 (keeps rule.Grant) some.1 in
      by_spinner some.0 by.0 e by.1

-- A tick that isn't blocked is charged to nothing.
pub spin_uncharged : (w : Trace) (t j : ℕ) → is_blocked is_shared_interference w t j ≡ false → spin_charge w t j ≡ None
unfolding spin_charge
spin_uncharged w t j free = rw free refl

-- What is charged was blocked.
pub spin_charge_blocked : (w : Trace) (t j : ℕ) (c : Charge) → spin_charge w t j ≡ Some c → is_blocked is_shared_interference w t j ≡ true
spin_charge_blocked w t j c e = elim (cases_Bool (is_blocked is_shared_interference w t j)) [
  | inl blocked ↦ blocked
  | inr free ↦ let x : None ≡ Some c = sym (spin_uncharged w t j free) ∙ e in absurd (cc)
]

-- Each charge has its reason.
pub spin_reason : (w : Trace) (t j : ℕ) (c : Charge) → AreLawfulJobs (jobs_of w) → KeepsRow spin_rule w t → spin_charge w t j ≡ Some c
    → SpinReason w t j c.class c.job
spin_reason w t j c lawful keeps e =
    let s : SpinCharged w t j = spin_charged w t j lawful keeps (spin_charge_blocked w t j c e) in
    let x : Some s.charge ≡ Some c = sym s.is_it ∙ e in
    let same : s.charge ≡ c = cc in
    subst (λ (d : Charge). SpinReason w t j d.class d.job) same s.why

-- The request of what is spun for executes.
spun_executes : (w : Trace) (n t k s y : ℕ) (class : Class) → AreLawfulJobs (jobs_of w) → KeepsBefore spin_rule w n → t < n
    → SpunBy w t k s y → Executes w t (record { job = y; class = class })
spun_executes w n t k s y class lawful keeps l a =
    let grant : KeepsGrant fmlp_plus w t = keeps t l rule.Grant in
    let r : Requester w t a.resource y = requester_is w t a.resource y (grant.requests a.resource y a.holder) in
    record {
      runs = runs_from (w.row t) (processor_of w y) y (holder_runs w n t a.resource y lawful keeps l a.holder);
      number = r.number;
      resource = a.resource;
      request = r.phase;
    }

reason_executes : (w : Trace) (n t j : ℕ) (class : Class) (y : ℕ) → AreLawfulJobs (jobs_of w) → KeepsBefore spin_rule w n → t < n
    → SpinReason w t j class y → Executes w t (record { job = y; class = class })
reason_executes w n t j Preemption y lawful keeps l why =
    holder_executes w t y Preemption (runs_from (w.row t) (processor_of w j) y why.runs) why.holds
reason_executes w n t j Direct y lawful keeps l why = spun_executes w n t (processor_of w j) j y Direct lawful keeps l why
reason_executes w n t j Indirect y lawful keeps l why = spun_executes w n t (processor_of w j) why.0 y Indirect lawful keeps l why.2

-- In rows that keep the rules the request to which a tick is charged executes.
pub spin_executes : (w : Trace) (n t j : ℕ) (c : Charge) → AreLawfulJobs (jobs_of w) → KeepsBefore spin_rule w n → t < n
    → spin_charge w t j ≡ Some c → Executes w t c
spin_executes w n t j c lawful keeps l e =
    reason_executes w n t j c.class c.job lawful keeps l (spin_reason w t j c lawful (keeps t l) e)
