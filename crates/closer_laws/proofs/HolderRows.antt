-- The rows of holders: while a job waits, a task of the charged job's processor holds what it waits for.
use Rattle.std.proofs.Common.{◌≡◌, ℕ, ◌<◌, ◌==◌, ◌&&◌, not, Bool, true, length, sym, ap, ◌∙◌}
use Rattle.std.proofs.lemmas.Bool.{both_ways, and_parts, and_from, eq-eqb, eqb-true, ne_eqb, not-true, not_from_false}
use Rattle.number_laws.proofs.TestLaws.{any_below-from}
use Rattle.schedule_model.specs.declared.rule.Rule.TheVariants as rule
use Rattle.schedule_model.specs.JobDef.{job_of}
use Rattle.schedule_model.specs.LawfulJobs.{IsLawfulJob, AreLawfulJobs}
use Rattle.schedule_model.specs.RowDef.{Trace, jobs_of}
use Rattle.schedule_model.specs.Activity.{task_of, processor_of}
use Rattle.schedule_model.specs.SharedRules.{Ranks}
use Rattle.schedule_model.specs.Ranks.{fmlp_plus}
use Rattle.schedule_model.specs.Protocols.{shared_rule}
use Rattle.schedule_model.specs.Keeping.{KeepsBefore}
use Rattle.schedule_laws.proofs.ActiveJobs.{active_listed}
use Rattle.schedule_laws.proofs.Rows.{ReadyHolder, ready_holder_is}
use Rattle.schedule_laws.proofs.Segments.{open_user}
use Rattle.sporadic_model.specs.Users.{is_user}
use Rattle.blocking_columns.specs.ColumnDef.{ColumnDef, is_preemption, is_indirect, is_direct}
use Rattle.blocking_columns.specs.Columns.{have_one_processor}
use Rattle.indirect_constraints.specs.Rows.{is_beside}
use Rattle.charge_laws.specs.Charges.{shared_charge}
use Rattle.charge_laws.proofs.SharedCharging.{WaitsFor, DirectBy, IndirectBy, shared_reason}
use Rattle.row_laws.specs.Meeting.{TicksMeet}
use Rattle.row_laws.proofs.Brings.{Window, Counted}
use Rattle.row_laws.proofs.Fifo.{InTurn, turns_met}
use Rattle.row_laws.proofs.Requests.{direct_is, indirect_is, tasks_ask_alone, direct_by, indirect_by, held_resource}
use Rattle.closer_laws.specs.CloserRows.{is_shared_out, is_held_there, is_held_beside, holder_row, other_holder_row, local_wait_row}
use Rattle.closer_laws.specs.CloserRows.{local_runner_row}
use Rattle.closer_laws.proofs.LocalResources.{only_there, one_local}
use Rattle.closer_laws.proofs.Waits.{waits_shared, waits_other, Held, held_of, held_instead, held_in_turn, other_job, other_task, other_resource, never_met}

differs : (a b : ℕ) → ((a ≡ b) → ⊥) → not (a == b) ≡ true
differs a b h = not_from_false (a == b) (ne_eqb a b h)

-- What a job waits for may be held on its holder's processor.
pub held_there : (o : Ranks) (w : Trace) (n t j z y : ℕ) → KeepsBefore (shared_rule o) w n → AreLawfulJobs (jobs_of w) → t < n
    → (a : WaitsFor w t j z) → processor_of w z ≡ processor_of w y
    → is_held_there w.set (task_of w j) (task_of w y) a.resource ≡ true
held_there o w n t j z y keeps lawful l a place =
    let holder : ReadyHolder w t z = ready_holder_is w t z a.holds in
    let job : IsLawfulJob w.set (job_of w.jobs z) = lawful.each z (active_listed w t z holder.active) in
    and_from _ _ (waits_shared o w n t j z keeps lawful l a)
    (any_below-from (length w.set.tasks)
    (λ k. is_user w.set a.resource k && (have_one_processor w.set k (task_of w y) && not (k == task_of w j))) (task_of w z) job.task
    (and_from _ _ (open_user w.set w t z a.holding a.resource job a.held)
    (and_from _ _ (eq-eqb _ _ place) (differs (task_of w z) (task_of w j) (waits_other w t j z a)))))

-- The row of holders.
pub holder_row_met : (w : Trace) (bound : ℕ → ℕ) (n j x : ℕ) → Window shared_charge w bound n j → KeepsBefore (shared_rule fmlp_plus) w n
    → TicksMeet shared_charge w bound n j (holder_row w.set (task_of w j) x)
holder_row_met w bound n j x window keeps s share fair =
    turns_met shared_charge w bound n j x s share counts (task_of w) (is_held_there w.set (task_of w j) x) window (tasks_ask_alone w n)
    turns fair where
      counts : ColumnDef → Bool
      counts = λ c. (c.task == x) && not (is_preemption c.class)

      turns : (t : ℕ) → t < n → (c : Counted shared_charge w counts j t)
          → (task_of w c.charge.job ≡ x) × InTurn w t j c.charge.job (is_held_there w.set (task_of w j) x)
      turns t l c =
          let both : ((task_of w c.charge.job == x) ≡ true) × (not (is_preemption c.charge.class) ≡ true) = and_parts _ _ c.passes in
          let task : task_of w c.charge.job ≡ x = eqb-true _ _ both.0 in
          let a : Held w t j c.charge.job =
          held_of w t j c.charge.job c.charge.class (keeps t l rule.Run) (not-true _ both.1)
          (shared_reason fmlp_plus w t j c.charge (keeps t l) c.is_it) in
          let passes : is_held_there w.set (task_of w j) x a.waits.resource ≡ true =
          ap (λ k. is_held_there w.set (task_of w j) k a.waits.resource) (sym task)
          ∙ held_there fmlp_plus w n t j a.holder c.charge.job keeps window.lawful l a.waits a.place in
          (task, held_in_turn w n t j c.charge.job (is_held_there w.set (task_of w j) x) window.lawful keeps l a passes)

-- What another task than the runner holds on its processor.
held_beside : (w : Trace) (n t j r : ℕ) → KeepsBefore (shared_rule fmlp_plus) w n → AreLawfulJobs (jobs_of w) → t < n
    → (by : IndirectBy fmlp_plus w t j r) → is_held_beside w.set (task_of w j) (task_of w r) by.waits.resource ≡ true
held_beside w n t j r keeps lawful l by =
    let z : ℕ = by.first in
    let holder : ReadyHolder w t by.first = ready_holder_is w t by.first by.waits.holds in
    let job : IsLawfulJob w.set (job_of w.jobs by.first) = lawful.each by.first (active_listed w t by.first holder.active) in
    let place : processor_of w by.first ≡ processor_of w r = (keeps t l rule.Run).column (processor_of w by.first) r by.runs in
    and_from _ _ (waits_shared fmlp_plus w n t j by.first keeps lawful l by.waits)
    (any_below-from (length w.set.tasks)
    (λ k. is_user w.set by.waits.resource k && (is_beside w.set (task_of w r) k && not (k == task_of w j))) (task_of w by.first) job.task
    (and_from _ _ (open_user w.set w t by.first by.waits.holding by.waits.resource job by.waits.held)
    (and_from _ _ (and_from _ _ (differs (task_of w by.first) (task_of w r) (other_task fmlp_plus w t j r by)) (eq-eqb _ _ place))
    (differs (task_of w by.first) (task_of w j) (waits_other w t j by.first by.waits)))))

-- The row of other holders.
pub other_holder_row_met : (w : Trace) (bound : ℕ → ℕ) (n j x q : ℕ) → Window shared_charge w bound n j
    → KeepsBefore (shared_rule fmlp_plus) w n → TicksMeet shared_charge w bound n j (other_holder_row w.set (task_of w j) x q)
other_holder_row_met w bound n j x q window keeps s share fair =
    turns_met shared_charge w bound n j x s share counts (task_of w) ok window (tasks_ask_alone w n) turns fair where
      counts : ColumnDef → Bool
      counts = λ c. ((c.task == x) && (c.resource == q)) && is_indirect c.class

      ok : ℕ → Bool
      ok = λ r. not (r == q) && is_held_beside w.set (task_of w j) x r

      turns : (t : ℕ) → t < n → (c : Counted shared_charge w counts j t) → (task_of w c.charge.job ≡ x) × InTurn w t j c.charge.job ok
      turns t l c =
          let parts : (((task_of w c.charge.job == x) && (c.resource == q)) ≡ true) × (is_indirect c.charge.class ≡ true) =
          and_parts _ _ c.passes in
          let both : ((task_of w c.charge.job == x) ≡ true) × ((c.resource == q) ≡ true) = and_parts _ _ parts.0 in
          let task : task_of w c.charge.job ≡ x = eqb-true _ _ both.0 in
          let why : IndirectBy fmlp_plus w t j c.charge.job =
          indirect_by fmlp_plus w t j c.charge.job c.charge.class (indirect_is c.charge.class parts.1)
          (shared_reason fmlp_plus w t j c.charge (keeps t l) c.is_it) in
          let a : Held w t j c.charge.job = held_instead w t j c.charge.job (keeps t l rule.Run) why in
          let resource : (why.waits.resource ≡ q) → ⊥ =
          λ e. other_resource fmlp_plus w t j c.charge.job c.number c.resource why c.request (e ∙ sym (eqb-true _ _ both.1)) in
          let beside : is_held_beside w.set (task_of w j) x why.waits.resource ≡ true =
          ap (λ k. is_held_beside w.set (task_of w j) k why.waits.resource) (sym task)
          ∙ held_beside w n t j c.charge.job keeps window.lawful l why in
          (task, held_in_turn w n t j c.charge.job ok window.lawful keeps l a (and_from _ _ (differs why.waits.resource q resource) beside))

-- The row of local waits.
pub local_wait_row_met : (w : Trace) (bound : ℕ → ℕ) (n j : ℕ) → Window shared_charge w bound n j
    → KeepsBefore (shared_rule fmlp_plus) w n → TicksMeet shared_charge w bound n j (local_wait_row w.set (task_of w j))
local_wait_row_met w bound n j window keeps = never_met shared_charge w bound n j counts window never where
  counts : ColumnDef → Bool
  counts = λ c. is_direct c.class && not (is_shared_out w.set (task_of w j) c.resource)

  never : (t : ℕ) → t < n → Counted shared_charge w counts j t → ⊥
  never t l c =
      let both : (is_direct c.charge.class ≡ true) × (not (is_shared_out w.set (task_of w j) c.resource) ≡ true) =
      and_parts _ _ c.passes in
      let why : DirectBy w t j c.charge.job =
      direct_by fmlp_plus w t j c.charge.job c.charge.class (direct_is c.charge.class both.0)
      (shared_reason fmlp_plus w t j c.charge (keeps t l) c.is_it) in
      let same : why.waits.resource ≡ c.resource = held_resource w t j c.charge.job c.number c.resource why.waits c.request in
      let out : is_shared_out w.set (task_of w j) c.resource ≡ true =
      ap (is_shared_out w.set (task_of w j)) (sym same) ∙ waits_shared fmlp_plus w n t j c.charge.job keeps window.lawful l why.waits in
      both_ways _ (not-true _ both.1) out

-- The row of local runners.
pub local_runner_row_met : (w : Trace) (bound : ℕ → ℕ) (n j : ℕ) → Window shared_charge w bound n j
    → KeepsBefore (shared_rule fmlp_plus) w n → TicksMeet shared_charge w bound n j (local_runner_row w.set (task_of w j))
local_runner_row_met w bound n j window keeps = never_met shared_charge w bound n j counts window never where
  counts : ColumnDef → Bool
  counts = λ c. is_indirect c.class && not (is_shared_out w.set c.task c.resource)

  never : (t : ℕ) → t < n → Counted shared_charge w counts j t → ⊥
  never t l c =
      let both : (is_indirect c.charge.class ≡ true) × (not (is_shared_out w.set (task_of w c.charge.job) c.resource) ≡ true) =
      and_parts _ _ c.passes in
      let r : ℕ = c.charge.job in
      let why : IndirectBy fmlp_plus w t j c.charge.job =
      indirect_by fmlp_plus w t j c.charge.job c.charge.class (indirect_is c.charge.class both.0)
      (shared_reason fmlp_plus w t j c.charge (keeps t l) c.is_it) in
      let a : Held w t j c.charge.job = held_instead w t j c.charge.job (keeps t l rule.Run) why in
      let one : c.charge.job ≡ a.holder =
      one_local fmlp_plus w n t c.charge.job a.holder c.number c.resource a.waits.holding a.waits.resource keeps window.lawful l c.request
      (only_there w.set (task_of w c.charge.job) c.resource (not-true _ both.1)) a.waits.held (sym a.place) a.order in
      other_job fmlp_plus w t j c.charge.job why (sym one)
