-- Indirect charges: a job waits for a holder that doesn't run, and a request of another task runs on the holder's processor. While one job
-- holds a resource, no other job of its processor runs a local tick. So each task there runs one request.
use Rattle.std.proofs.Common.{◌≡◌, ℕ, ◌*◌, ◌<◌, ◌≤◌, ◌==◌, ◌&&◌, true, length, refl, sym, ap, ◌∙◌, arith, Some}
use Rattle.std.specs.Option.{option_map_or}
use Rattle.std.proofs.lemmas.Bool.{both_ways, and_parts, and_from, eqb-true, eq-eqb, ne_eqb, not_from_false}
use Rattle.number_laws.specs.Sums.{flag}
use Rattle.sporadic_model.specs.SetDef.{task_at}
use Rattle.sporadic_model.specs.Users.{is_user}
use Rattle.schedule_model.specs.declared.rule.Rule.TheVariants as rule
use Rattle.schedule_model.specs.JobDef.{job_of}
use Rattle.schedule_model.specs.LawfulJobs.{IsLawfulJob}
use Rattle.schedule_model.specs.RowDef.{Trace, running_on, holder_in, runs_in}
use Rattle.schedule_model.specs.Phase.{Phase, phase_of}
use Rattle.schedule_model.specs.Phase.Phase.{Local, Asking}
use Rattle.schedule_model.specs.Activity.{task_of, processor_of, is_active, is_ready_holder, is_ready}
use Rattle.schedule_model.specs.SharedRules.{Ranks, KeepsRun, KeepsPriority}
use Rattle.schedule_model.specs.Protocols.{shared_rule}
use Rattle.schedule_model.specs.Keeping.{KeepsBefore}
use Rattle.schedule_laws.proofs.ActiveJobs.{active_listed, one_active, Requester}
use Rattle.schedule_laws.proofs.Rows.{runs_from, runs_where, ReadyHolder, ready_holder_is, ready_holder_from, ready_holding}
use Rattle.schedule_laws.proofs.Segments.{open_resource, open_user}
use Rattle.blocking_columns.specs.ColumnDef.{ColumnDef, is_indirect}
use Rattle.indirect_constraints.specs.Rows.{is_beside}
use Rattle.charge_laws.specs.Charges.{shared_charge}
use Rattle.charge_laws.specs.Windows.{window_end}
use Rattle.charge_laws.proofs.SharedCharging.{IndirectBy, shared_reason}
use Rattle.row_laws.proofs.Brings.{Window, Hit, flag_times-passes}
use Rattle.row_laws.proofs.JobRows.{HitJob, hit_job}
use Rattle.row_laws.proofs.SlotRow.{OneRequest}
use Rattle.row_laws.proofs.Requests.{indirect_is, indirect_by, one_request}
use Rattle.row_laws.proofs.LowerHolders.{holder_asks}

-- What the row counts of a column.
abbrev pub holding_share : ℕ → (ℕ → ℕ → ℕ) → ColumnDef → ℕ
holding_share x share c = flag ((c.task == x) && is_indirect c.class) * share c.task c.resource

-- Which resource is requested in this phase? 0 if none is.
abbrev pub resource_of : Phase → ℕ
resource_of (Asking k q) = q
resource_of _ = 0

-- The resource that job j waits for, and its holder.
abbrev pub own_resource : Trace → ℕ → ℕ → ℕ
own_resource w j t = resource_of (phase_of w t j)

abbrev pub first_holder : Trace → ℕ → ℕ → ℕ
first_holder w j t = option_map_or (λ y. y) (holder_in (w.row t) (own_resource w j t)) 0

-- Job j waits for a resource that job z holds. Job z doesn't run, and job r of task x runs on z's processor.
pub record Held (w : Trace) (t j x r : ℕ) : Type 0 where
  pub number : ℕ
  pub asks : phase_of w t j ≡ Asking number (own_resource w j t)
  pub active : is_active w t j ≡ true
  pub within : own_resource w j t < length w.set.resources
  pub user : is_user w.set (own_resource w j t) (task_of w j) ≡ true
  pub holder : holder_in (w.row t) (own_resource w j t) ≡ Some (first_holder w j t)
  pub listed : first_holder w j t < length w.jobs
  pub holding : ℕ
  pub held : phase_of w t (first_holder w j t) ≡ Asking holding (own_resource w j t)
  pub uses : is_user w.set (own_resource w j t) (task_of w (first_holder w j t)) ≡ true
  pub other : (task_of w (first_holder w j t) ≡ task_of w j) → ⊥
  pub beside : is_beside w.set x (task_of w (first_holder w j t)) ≡ true
  pub task : task_of w r ≡ x
  pub processor : processor_of w r ≡ processor_of w (first_holder w j t)

-- What counts is of x, and indirect.
holding_hit : (w : Trace) (x j t : ℕ) (share : ℕ → ℕ → ℕ) → (h : Hit shared_charge w (holding_share x share) j t)
    → (task_of w h.charge.job ≡ x) × (is_indirect h.charge.class ≡ true)
holding_hit w x j t share h =
    let both : ((task_of w h.charge.job == x) ≡ true) × (is_indirect h.charge.class ≡ true) =
    and_parts _ _ (flag_times-passes ((task_of w h.charge.job == x) && is_indirect h.charge.class)
    (share (task_of w h.charge.job) h.resource) h.some) in
    (eqb-true _ _ both.0, both.1)

-- Such a holder is of another task than the job that waits, and than the job that runs.
held_by : (o : Ranks) (w : Trace) (bound : ℕ → ℕ) (n t j x r : ℕ) → Window shared_charge w bound n j → KeepsBefore (shared_rule o) w n
    → t < n → task_of w r ≡ x → IndirectBy o w t j r → Held w t j x r
held_by o w bound n t j x r window keeps l task by = record {
  number = by.waits.number;
  asks = by.waits.request ∙ ap (Asking by.waits.number) (sym own);
  active = by.waits.active;
  within = rw own (open_resource w.set w t j by.waits.number by.waits.resource (window.lawful.each j window.listed) by.waits.request);
  user = rw own (open_user w.set w t j by.waits.number by.waits.resource (window.lawful.each j window.listed) by.waits.request);
  holder = ap (holder_in (w.row t)) own ∙ by.waits.holder ∙ ap (λ z. Some z) (sym first);
  listed = rw first listed;
  holding = by.waits.holding;
  held = ap (phase_of w t) first ∙ by.waits.held ∙ ap (Asking by.waits.holding) (sym own);
  uses = rw (first, own)
      (open_user w.set w t by.first by.waits.holding by.waits.resource (window.lawful.each by.first listed) by.waits.held);
  other = λ e. not_own (ap (task_of w) (sym first) ∙ e);
  beside = rw first beside;
  task = task;
  processor = processor ∙ ap (processor_of w) (sym first);
} where
  own : own_resource w j t ≡ by.waits.resource
  own = ap resource_of by.waits.request

  first : first_holder w j t ≡ by.first
  first = ap (λ q. option_map_or (λ y. y) (holder_in (w.row t) q) 0) own ∙ ap (λ o. option_map_or (λ y. y) o 0) by.waits.holder

  active : is_active w t by.first ≡ true
  active = let h : ReadyHolder w t by.first = ready_holder_is w t by.first by.waits.holds in h.active

  listed : by.first < length w.jobs
  listed = active_listed w t by.first active

  runner : ReadyHolder w t r
  runner = ready_holder_is w t r by.holds

  processor : processor_of w r ≡ processor_of w by.first
  processor = let run : KeepsRun w t = keeps t l rule.Run in sym (run.column (processor_of w by.first) r by.runs)

  not_own : (task_of w by.first ≡ task_of w j) → ⊥
  not_own e =
      let same : by.first ≡ j = one_active w t by.first j active by.waits.active e in
      let ready : is_ready w t j ≡ true = rw (← same) (ready_holding w t by.first by.waits.holds) in
      both_ways (is_ready w t j) by.waits.other ready

  not_runner : (task_of w by.first ≡ x) → ⊥
  not_runner e =
      let same : r ≡ by.first = one_active w t r by.first runner.active active (task ∙ sym e) in
      let runs : runs_in (w.row t) by.first ≡ true = rw (← same) (runs_from (w.row t) (processor_of w by.first) r by.runs) in
      both_ways (runs_in (w.row t) by.first) by.stands runs

  place : processor_of w by.first ≡ (task_at w.set x).processor
  place = sym processor ∙ ap (λ z. (task_at w.set z).processor) task

  beside : is_beside w.set x (task_of w by.first) ≡ true
  beside = and_from _ _ (not_from_false (task_of w by.first == x) (ne_eqb (task_of w by.first) x not_runner))
      (eq-eqb (processor_of w by.first) (task_at w.set x).processor place)

-- The facts at a tick that counts.
pub held_at : (o : Ranks) (w : Trace) (bound : ℕ → ℕ) (n t j x : ℕ) (share : ℕ → ℕ → ℕ) → Window shared_charge w bound n j
    → KeepsBefore (shared_rule o) w n → t < n
    → (h : Hit shared_charge w (holding_share x share) j t) → Held w t j x h.charge.job
held_at o w bound n t j x share window keeps l h =
    held_by o w bound n t j x h.charge.job window keeps l (holding_hit w x j t share h).0
    (indirect_by o w t j h.charge.job h.charge.class (indirect_is h.charge.class (holding_hit w x j t share h).1)
    (shared_reason o w t j h.charge (keeps t l) h.is_it))

-- While job z holds q, no job of its processor runs a Local tick.
pub no_local_beside : (o : Ranks) (w : Trace) (n t q z y : ℕ) → KeepsBefore (shared_rule o) w n → t < n → holder_in (w.row t) q ≡ Some z
    → processor_of w y ≡ processor_of w z → phase_of w t y ≡ Local
    → runs_in (w.row t) y ≡ true → ⊥
no_local_beside o w n t q z y keeps l holds same local runs =
    let asks : Requester w t q z = holder_asks o w n t q z keeps l holds in
    let ready : is_ready_holder w t z ≡ true = ready_holder_from w t z asks.number q asks.active asks.phase holds in
    let at : (k : ℕ) × (running_on (w.row t) k ≡ Some y) = runs_where (w.row t) y runs in
    let run : KeepsRun w t = keeps t l rule.Run in
    let place : at.0 ≡ processor_of w z = run.column at.0 y at.1 ∙ same in
    let here : running_on (w.row t) (processor_of w z) ≡ Some y = rw (← place) at.1 in
    let priority : KeepsPriority o w t = keeps t l rule.Priority in
    let h : ReadyHolder w t y =
    ready_holder_is w t y (priority.holders (processor_of w z) y here z (active_listed w t z asks.active) refl ready).0 in
    let x : Local ≡ Asking h.number h.resource = sym local ∙ h.phase in
    cc

-- Take two ticks between which one job holds the resource that j waits for. They are charged to one request.
pub holding_one : (o : Ranks) (w : Trace) (bound : ℕ → ℕ) (n u v q z j x : ℕ) (share : ℕ → ℕ → ℕ) → Window shared_charge w bound n j
    → KeepsBefore (shared_rule o) w n → u ≤ v → v < window_end w bound n j
    → (a : Hit shared_charge w (holding_share x share) j u) → (b : Hit shared_charge w (holding_share x share) j v)
    → processor_of w b.charge.job ≡ processor_of w z
    → ((t : ℕ) → u ≤ t → t ≤ v → holder_in (w.row t) q ≡ Some z) → OneRequest w u v a.charge.job b.charge.job
holding_one o w bound n u v q z j x share window keeps order l a b processor holds =
    let there : HitJob shared_charge w bound j u a.charge.job =
    hit_job shared_charge w bound n j u (holding_share x share) window (omega arith) a in
    let later : HitJob shared_charge w bound j v b.charge.job = hit_job shared_charge w bound n j v (holding_share x share) window l b in
    let lawful : IsLawfulJob w.set (job_of w.jobs b.charge.job) = window.lawful.each b.charge.job later.listed in
    let same : task_of w a.charge.job ≡ task_of w b.charge.job = (holding_hit w x j u share a).0 ∙ sym (holding_hit w x j v share b).0 in
    one_request w n u v a.charge.job b.charge.job b.number b.resource window.active
    (omega arith) order lawful.script there.active same b.request
    (λ t from before local runs. no_local_beside o w n t q z b.charge.job keeps (omega arith)
    (holds t from (omega arith)) processor local runs)
