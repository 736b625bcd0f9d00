-- The rows of lower tasks: what lower tasks bring between two grants of requests that are shared out was open all the while, since they
-- run no Local tick while the job is ready, and what blocks the job while it waits was issued before.
use Rattle.std.proofs.Common.{◌≡◌, ℕ, suc, ◌+◌, ◌*◌, ◌<◌, ◌≤◌, ◌==◌, ◌&&◌, not, Bool, true, length, refl, sym, ap, ◌∙◌, get_or}
use Rattle.std.proofs.Common.{arith, inl, inr}
use Rattle.std.proofs.lemmas.Bool.{cases_lt, and_parts, eqb-true, not-true}
use Rattle.number_laws.specs.Sums.{sum_below, flag}
use Rattle.number_laws.proofs.CountLaws.{count_below-monotone}
use Rattle.sporadic_model.specs.Users.{length_of}
use Rattle.schedule_model.specs.declared.rule.Rule.TheVariants as rule
use Rattle.schedule_model.specs.JobDef.{job_of, no_segment}
use Rattle.schedule_model.specs.LawfulJobs.{IsLawfulJob, AreLawfulJobs}
use Rattle.schedule_model.specs.RowDef.{Trace, jobs_of, runs_in}
use Rattle.schedule_model.specs.Phase.{phase_of}
use Rattle.schedule_model.specs.Phase.Phase.{Local, Asking}
use Rattle.schedule_model.specs.Activity.{task_of, processor_of, is_ready, is_active, issue_tick_of}
use Rattle.schedule_model.specs.SharedRules.{Ranks, KeepsRun}
use Rattle.schedule_model.specs.Ranks.{fmlp_plus}
use Rattle.schedule_model.specs.Protocols.{shared_rule}
use Rattle.schedule_model.specs.Keeping.{KeepsBefore}
use Rattle.schedule_laws.proofs.ActiveJobs.{active_local_from, active_stays}
use Rattle.schedule_laws.proofs.Holders.{open_at}
use Rattle.schedule_laws.proofs.Issues.{issue_at_most, open_since}
use Rattle.schedule_laws.proofs.Rows.{ready_active, ready_local}
use Rattle.blocking_columns.specs.declared.columns.Class.{Class}
use Rattle.blocking_columns.specs.declared.columns.Class.TheVariants.{Direct, Indirect, Preemption}
use Rattle.blocking_columns.specs.ColumnDef.{ColumnDef, is_preemption}
use Rattle.blocking_columns.specs.Columns.{is_lower_local}
use Rattle.charge_laws.specs.Charges.{shared_charge}
use Rattle.charge_laws.specs.Windows.{window_end}
use Rattle.charge_laws.proofs.SharedCharging.{PreemptedBy, SharedReason, shared_reason}
use Rattle.row_laws.specs.Meeting.{brings, TicksMeet}
use Rattle.row_laws.proofs.Brings.{Window, Hit}
use Rattle.row_laws.proofs.SlotRow.{OneRequest}
use Rattle.row_laws.proofs.JobRows.{HitJob, hit_job}
use Rattle.row_laws.proofs.Requests.{preemption_is, one_request}
use Rattle.row_laws.proofs.Intervals.{LowerLocal, lower_local_is, no_lower_local, preempted_by}
use Rattle.row_laws.proofs.Numbers.{asks_passing}
use Rattle.row_laws.proofs.Fifo.{InTurn}
use Rattle.closer_laws.specs.CloserRows.{is_shared_out, requests_where, lower_row, local_preemption_row}
use Rattle.closer_laws.proofs.LocalResources.{Issued, issued, OnlyOn, only_there, one_local}
use Rattle.closer_laws.proofs.Waits.{Held, held_of, held_in_turn}
use Rattle.closer_laws.proofs.Slots.{hit_passes, slots_paid}
use Rattle.closer_laws.proofs.Granted.{granted, granted_rise, ready_through, is_granted}

-- A row whose slots are told by the requests granted so far: at most one request each brings at most one more than the job has requests
-- that are shared out.
pub granted_slots : (w : Trace) (bound : ℕ → ℕ) (n j s : ℕ) (share : ℕ → ℕ → ℕ) (counts : ColumnDef → Bool)
    → Window shared_charge w bound n j → ((y q : ℕ) → share y q * length_of w.set y q ≤ s)
    → ((u v : ℕ) → u ≤ v → v < window_end w bound n j
    → (a : Hit shared_charge w (λ c. flag (counts c) * share c.task c.resource) j u)
    → (b : Hit shared_charge w (λ c. flag (counts c) * share c.task c.resource) j v)
    → granted w j u ≡ granted w j v → OneRequest w u v a.charge.job b.charge.job)
    → sum_below (window_end w bound n j) (λ t. brings shared_charge w (λ c. flag (counts c) * share c.task c.resource) j t)
    ≤ s * (1 + requests_where w.set (task_of w j) (is_shared_out w.set (task_of w j)))
granted_slots w bound n j s share counts window fair one =
    slots_paid shared_charge w bound n j s share counts (is_shared_out w.set (task_of w j)) (granted w j) window fair
    (λ t. count_below-monotone (length (job_of w.jobs j).script) (is_granted w j t)
    (λ m. asks_passing (is_shared_out w.set (task_of w j)) (get_or (job_of w.jobs j).script m no_segment)) (λ m b h. (and_parts _ _ h).0))
    one

-- Between two ticks with as many granted, before one at which job j is ready, a job of a lower local task runs no Local tick.
pub no_local_run : (o : Ranks) (w : Trace) (bound : ℕ → ℕ) (n u t v j z : ℕ) → Window shared_charge w bound n j
    → KeepsBefore (shared_rule o) w n → u ≤ t → t ≤ v → v < n → is_active w u j ≡ true → is_ready w v j ≡ true
    → granted w j v ≤ granted w j u → LowerLocal w (task_of w j) (task_of w z) → phase_of w t z ≡ Local → runs_in (w.row t) z ≡ true → ⊥
no_local_run o w bound n u t v j z window keeps before after l early late same low local runs =
    no_lower_local o w t j z (keeps t (omega arith) rule.Run) (keeps t (omega arith) rule.Priority)
    (ready_through o w n u t v j keeps window.lawful before after l early late same) low.lower low.processor local runs

-- Nor does one before a tick that is charged to it while j waits.
pub no_local_run_waiting : (w : Trace) (bound : ℕ → ℕ) (n u t v j z m q : ℕ) → Window shared_charge w bound n j
    → KeepsBefore (shared_rule fmlp_plus) w n → u ≤ t → t < v → v < n → is_active w u j ≡ true → Held w v j z
    → phase_of w v z ≡ Asking m q → granted w j v ≤ granted w j u → LowerLocal w (task_of w j) (task_of w z)
    → phase_of w t z ≡ Local → runs_in (w.row t) z ≡ true → ⊥
no_local_run_waiting w bound n u t v j z m q window keeps before after l early held asks same low local runs =
    elim (cases_lt a.before t) [
      | inl late ↦
          let there : phase_of w t z ≡ Asking m q = open_since w t v z m q asks (omega (arith, turn.earlier, a.issue)) (omega arith) in
          let x : Local ≡ Asking m q = sym local ∙ there in
          cc
      | inr soon ↦
          no_local_run fmlp_plus w bound n u t a.before j z window keeps before soon (omega (arith, last)) early
          (ready (omega arith))
          (omega (arith, same, granted_rise w j a.before v (omega (arith, last)))) low local runs
    ] where
      a : Issued w v j
      a = issued w v j held.waits.number held.waits.resource (window.lawful.each j window.listed).script held.waits.request

      last : suc a.before ≤ v
      last = omega (arith, issue_at_most w v j, a.issue)

      turn : InTurn w v j z (λ r. true)
      turn = held_in_turn w n v j z (λ r. true) window.lawful keeps l held refl

      ready : u ≤ a.before → is_ready w a.before j ≡ true
      ready from = ready_local w a.before j (active_local_from w a.before j
          (active_stays w u a.before j early from (rw a.local refl)) a.local)

-- So what a lower local task brings at the later of two such ticks was open at the earlier one.
none_between : (w : Trace) (bound : ℕ → ℕ) (n u t v j z m q : ℕ) (c : Class) → Window shared_charge w bound n j
    → KeepsBefore (shared_rule fmlp_plus) w n → u ≤ t → t < v → v < n → is_active w u j ≡ true → SharedReason fmlp_plus w v j c z
    → phase_of w v z ≡ Asking m q → granted w j u ≡ granted w j v → LowerLocal w (task_of w j) (task_of w z)
    → phase_of w t z ≡ Local → runs_in (w.row t) z ≡ true → ⊥
none_between w bound n u t v j z m q Direct window keeps before after l early why asks same low local runs =
    no_local_run_waiting w bound n u t v j z m q window keeps before after l early (held_of w v j z Direct (keeps v l rule.Run) refl why) asks
    (omega (arith, same)) low local runs
none_between w bound n u t v j z m q Indirect window keeps before after l early why asks same low local runs =
    no_local_run_waiting w bound n u t v j z m q window keeps before after l early (held_of w v j z Indirect (keeps v l rule.Run) refl why)
    asks (omega (arith, same)) low local runs
none_between w bound n u t v j z m q Preemption window keeps before after l early why asks same low local runs =
    no_local_run fmlp_plus w bound n u t v j z window keeps before (omega arith) l early why.ready (omega (arith, same)) low local runs

-- The row of lower tasks.
pub lower_row_met : (w : Trace) (bound : ℕ → ℕ) (n j x : ℕ) → Window shared_charge w bound n j → KeepsBefore (shared_rule fmlp_plus) w n
    → is_lower_local w.set (task_of w j) x ≡ true → TicksMeet shared_charge w bound n j (lower_row w.set (task_of w j) x)
lower_row_met w bound n j x window keeps lower s share fair = granted_slots w bound n j s share (λ c. c.task == x) window fair one where
  f : ColumnDef → ℕ
  f = λ c. flag (c.task == x) * share c.task c.resource

  task : (t : ℕ) → (h : Hit shared_charge w f j t) → task_of w h.charge.job ≡ x
  task t h = eqb-true _ _ (hit_passes shared_charge w j t share (λ c. c.task == x) h)

  one : (u v : ℕ) → u ≤ v → v < window_end w bound n j → (a : Hit shared_charge w f j u) → (b : Hit shared_charge w f j v)
      → granted w j u ≡ granted w j v → OneRequest w u v a.charge.job b.charge.job
  one u v order l a b same =
      let there : HitJob shared_charge w bound j u a.charge.job = hit_job shared_charge w bound n j u f window (omega arith) a in
      let later : HitJob shared_charge w bound j v b.charge.job = hit_job shared_charge w bound n j v f window l b in
      let lawful : IsLawfulJob w.set (job_of w.jobs b.charge.job) = window.lawful.each b.charge.job later.listed in
      let low : LowerLocal w (task_of w j) (task_of w b.charge.job) = rw (task v b) (lower_local_is w (task_of w j) x lower) in
      let active : is_active w u j ≡ true = window.own u a.charge (omega arith) a.is_it in
      let why : SharedReason fmlp_plus w v j b.charge.class b.charge.job =
      shared_reason fmlp_plus w v j b.charge (keeps v (omega arith)) b.is_it in
      one_request w n u v a.charge.job b.charge.job b.number b.resource window.active (omega arith) order lawful.script there.active
      (task u a ∙ sym (task v b)) b.request
      (λ t from before local runs. none_between w bound n u t v j b.charge.job b.number b.resource b.charge.class window keeps from before
      (omega arith) active why b.request same low local runs)

-- Who preempts job j is of a lower local task.
pub preempting_low : (w : Trace) (t j y : ℕ) → KeepsRun w t → PreemptedBy w t j y → LowerLocal w (task_of w j) (task_of w y)
preempting_low w t j y run why = record { lower = why.lower; processor = sym (run.column (processor_of w j) y why.runs) }

-- Two jobs in requests that only their processor's tasks use, at one tick: they are one.
either_local : (o : Ranks) (w : Trace) (n t r y m q k p : ℕ) → KeepsBefore (shared_rule o) w n → AreLawfulJobs (jobs_of w) → t < n
    → phase_of w t r ≡ Asking m q → OnlyOn w.set q (processor_of w r) → phase_of w t y ≡ Asking k p → OnlyOn w.set p (processor_of w y)
    → processor_of w r ≡ processor_of w y → r ≡ y
either_local o w n t r y m q k p keeps lawful l one only_one two only_two place =
    elim (cases_lt (issue_tick_of w t y) (issue_tick_of w t r)) [
      | inr first ↦ one_local o w n t r y m q k p keeps lawful l one only_one two place (omega arith)
      | inl second ↦ sym (one_local o w n t y r k p m q keeps lawful l two only_two one (sym place) (omega arith))
    ]

-- What preempts job j at the later of two ticks with as many granted, of a lower local task, was open at the earlier one.
pub preempting_open : (o : Ranks) (w : Trace) (bound : ℕ → ℕ) (n u v j y z m q : ℕ) → Window shared_charge w bound n j
    → KeepsBefore (shared_rule o) w n → u ≤ v → v < n → PreemptedBy w u j y → PreemptedBy w v j z → z < length w.jobs
    → granted w j u ≡ granted w j v → LowerLocal w (task_of w j) (task_of w z) → phase_of w v z ≡ Asking m q → phase_of w u z ≡ Asking m q
preempting_open o w bound n u v j y z m q window keeps order l early late listed same low asks =
    open_at w u v z m q (window.lawful.each z listed).script order asks
    (λ t from before local runs. no_local_run o w bound n u t v j z window keeps from (omega arith) l
    (ready_active w u j early.ready) late.ready (omega (arith, same)) low local runs)

-- The row of local preemption, in whatever order requests are granted and holders run.
pub local_preemption_row_met : (o : Ranks) (w : Trace) (bound : ℕ → ℕ) (n j : ℕ) → Window shared_charge w bound n j
    → KeepsBefore (shared_rule o) w n → TicksMeet shared_charge w bound n j (local_preemption_row w.set (task_of w j))
local_preemption_row_met o w bound n j window keeps s share fair = granted_slots w bound n j s share counts window fair one where
  counts : ColumnDef → Bool
  counts = λ c. is_preemption c.class && not (is_shared_out w.set (task_of w j) c.resource)

  f : ColumnDef → ℕ
  f = λ c. flag (counts c) * share c.task c.resource

  by : (t : ℕ) → t < n → (h : Hit shared_charge w f j t) → PreemptedBy w t j h.charge.job
  by t l h =
      let both : (is_preemption h.charge.class ≡ true) × (not (is_shared_out w.set (task_of w j) h.resource) ≡ true) =
      and_parts _ _ (hit_passes shared_charge w j t share counts h) in
      preempted_by o w t j h.charge.job h.charge.class (preemption_is h.charge.class both.0)
      (shared_reason o w t j h.charge (keeps t l) h.is_it)

  only : (t : ℕ) → t < n → (h : Hit shared_charge w f j t) → OnlyOn w.set h.resource (processor_of w j)
  only t l h =
      let both : (is_preemption h.charge.class ≡ true) × (not (is_shared_out w.set (task_of w j) h.resource) ≡ true) =
      and_parts _ _ (hit_passes shared_charge w j t share counts h) in
      only_there w.set (task_of w j) h.resource (not-true _ both.1)

  one : (u v : ℕ) → u ≤ v → v < window_end w bound n j → (a : Hit shared_charge w f j u) → (b : Hit shared_charge w f j v)
      → granted w j u ≡ granted w j v → OneRequest w u v a.charge.job b.charge.job
  one u v order l a b same =
      let early : PreemptedBy w u j a.charge.job = by u (omega arith) a in
      let late : PreemptedBy w v j b.charge.job = by v (omega arith) b in
      let later : HitJob shared_charge w bound j v b.charge.job = hit_job shared_charge w bound n j v f window l b in
      let first : LowerLocal w (task_of w j) (task_of w a.charge.job) =
      preempting_low w u j a.charge.job (keeps u (omega arith) rule.Run) early in
      let low : LowerLocal w (task_of w j) (task_of w b.charge.job) =
      preempting_low w v j b.charge.job (keeps v (omega arith) rule.Run) late in
      let open_u : phase_of w u b.charge.job ≡ Asking b.number b.resource =
      preempting_open o w bound n u v j a.charge.job b.charge.job b.number b.resource window keeps order (omega arith) early late
      later.listed same low b.request in
      let one_job : a.charge.job ≡ b.charge.job =
      either_local o w n u a.charge.job b.charge.job a.number a.resource b.number b.resource keeps window.lawful (omega arith)
      a.request (rw first.processor (only u (omega arith) a)) open_u (rw low.processor (only v (omega arith) b))
      (first.processor ∙ sym low.processor) in
      record { job = one_job; phase = ap (phase_of w u) one_job ∙ open_u ∙ sym b.request }
