-- The rows of lower tasks of a job's processor. They run no Local tick while the job is in no request that runs on another processor. So
-- what they bring between two such requests was open all the while; and of what runs on their own processor that is one request.
use Rattle.std.proofs.Common.{◌≡◌, ℕ, ◌<◌, ◌≤◌, ◌*◌, ◌==◌, ◌&&◌, Bool, true, refl, sym, ap, ◌∙◌, arith, inl, inr}
use Rattle.std.proofs.lemmas.Bool.{cases_lt, cases_Bool, both_ways, and_parts, eqb-true, not_from_false}
use Rattle.number_laws.specs.Sums.{flag}
use Rattle.sporadic_model.specs.Homes.{home_in}
use Rattle.schedule_model.specs.JobDef.{job_of}
use Rattle.schedule_model.specs.LawfulJobs.{is_script}
use Rattle.schedule_model.specs.RowDef.{Trace, runs_in}
use Rattle.schedule_model.specs.Phase.{Phase, is_finished, phase_of}
use Rattle.schedule_model.specs.Phase.Phase.{Local, Asking, Finished}
use Rattle.schedule_model.specs.Activity.{task_of, processor_of, is_active, issue_tick_of}
use Rattle.schedule_laws.proofs.ActiveJobs.{Active, active_is, active_listed, requester_from}
use Rattle.schedule_laws.proofs.Holders.{open_active, open_at}
use Rattle.schedule_laws.proofs.Issues.{issue_at_most, issue_no_later, open_since}
use Rattle.blocking_columns.specs.declared.columns.Class.{Class}
use Rattle.blocking_columns.specs.declared.columns.Class.TheVariants.{Direct, Indirect, Preemption}
use Rattle.blocking_columns.specs.ColumnDef.{ColumnDef, is_preemption}
use Rattle.blocking_columns.specs.Columns.{is_lower_local}
use Rattle.charge_laws.specs.Charges.{dpcp_charge}
use Rattle.charge_laws.specs.Windows.{window_end}
use Rattle.charge_laws.proofs.DpcpCharging.{HomeBlocked, LocalBlocked, DpcpReason, RunsAtHomes, RunsAtHomesBefore, home_reason}
use Rattle.row_laws.specs.Meeting.{TicksMeet}
use Rattle.row_laws.proofs.Brings.{Window, Hit}
use Rattle.row_laws.proofs.JobRows.{HitJob, hit_job}
use Rattle.row_laws.proofs.SlotRow.{OneRequest}
use Rattle.row_laws.proofs.Requests.{preemption_is, tasks_ask_alone, one_open}
use Rattle.row_laws.proofs.Intervals.{LowerLocal, lower_local_is, no_lower_local_home, unfinished_between, blocked_by}
use Rattle.closer_laws.proofs.Slots.{hit_passes, slots_paid}
use Rattle.closer_distributed_laws.specs.CloserRows.{is_away, lower_task_row, lower_preemption_row}
use Rattle.closer_distributed_laws.proofs.OneHome.{runs_at, quiet_home, one_home}
use Rattle.closer_distributed_laws.proofs.Left.{left, left_few, still_in}

-- Was what job j waits for of lower tasks issued no later than its own request?
abbrev pub LowerComesFirst : Trace → ℕ → ℕ → Type 0
LowerComesFirst w n j =
    (t z : ℕ) → t < n → HomeBlocked w t j z → task_of w j < task_of w z → issue_tick_of w t z ≤ issue_tick_of w t j

-- How many requests that run on other processors has a job left?
abbrev pub returned : Trace → ℕ → ℕ → ℕ
returned w j t = left w (is_away w.set (task_of w j)) j t

-- Is job j in no request that runs on another processor?
abbrev pub IsNear : Trace → ℕ → ℕ → Type 0
IsNear w t j = (m q : ℕ) → phase_of w t j ≡ Asking m q → is_away w.set (task_of w j) q ≡ true → ⊥

-- Then no job of a lower task of its processor runs a Local tick.
pub quiet_lower : (w : Trace) (t j z : ℕ) → RunsAtHomes w t → is_active w t j ≡ true → IsNear w t j
    → LowerLocal w (task_of w j) (task_of w z) → phase_of w t z ≡ Local → runs_in (w.row t) z ≡ true → ⊥
quiet_lower w t j z homes active near low local runs = go (phase_of w t j) refl where
  go : (p : Phase) → phase_of w t j ≡ p → ⊥
  go Local e = no_lower_local_home w t j z homes active e low.lower low.processor local runs
  go Finished e =
      let a : Active w t j = active_is w t j active in
      let x : is_finished (phase_of w t j) ≡ true = rw e refl in
      both_ways (is_finished (phase_of w t j)) a.unfinished x
  go (Asking m q) e = elim (cases_Bool (home_in w.set q == processor_of w j)) [
    | inr away ↦ near m q e (not_from_false (home_in w.set q == processor_of w j) away)
    | inl here ↦
        quiet_home w t (processor_of w j) j z homes
        (record { active = active; number = m; resource = q; request = e; home = eqb-true _ _ here }) low.processor local runs
  ]

-- So a request that it is in at e was open at u, where job j is in no such request between.
open_while_near : (w : Trace) (n u e v j z m q : ℕ) → RunsAtHomesBefore w n → is_script (job_of w.jobs z).script ≡ true → u ≤ e → e ≤ v
    → v < n → is_active w u j ≡ true → is_active w v j ≡ true → ((t : ℕ) → u ≤ t → t < e → IsNear w t j)
    → LowerLocal w (task_of w j) (task_of w z) → phase_of w e z ≡ Asking m q → phase_of w u z ≡ Asking m q
open_while_near w n u e v j z m q homes script order to l early late near low asks =
    open_at w u e z m q script order asks
    (λ t from before local runs. quiet_lower w t j z (homes t (omega arith))
    (unfinished_between w u t v j early late from (omega arith)).1 (near t from before) low local runs)

-- Between two ticks with as many such requests left: what preempts job j at the later one,
pub open_in_local_slot : (w : Trace) (n u v j z m q : ℕ) → RunsAtHomesBefore w n → is_script (job_of w.jobs z).script ≡ true → u ≤ v
    → v < n → is_active w u j ≡ true → returned w j u ≡ returned w j v → LowerLocal w (task_of w j) (task_of w z)
    → phase_of w v z ≡ Asking m q → LocalBlocked w v j z → phase_of w u z ≡ Asking m q
open_in_local_slot w n u v j z m q homes script order l early same low asks why =
    open_while_near w n u v v j z m q homes script order (omega arith) l early why.active
    (λ t from before k r e away.
    let inside : (s : ℕ) × (phase_of w v j ≡ Asking k s) =
    still_in w (is_away w.set (task_of w j)) j u t v k r from (omega (arith, before)) same e away in
    let x : Local ≡ Asking k inside.0 = sym why.local ∙ inside.1 in
    cc)
    low asks

-- and what it waits for there, was open at the earlier one.
pub open_in_wait_slot : (w : Trace) (bound : ℕ → ℕ) (n u v j z m q : ℕ) → Window dpcp_charge w bound n j → RunsAtHomesBefore w n
    → LowerComesFirst w n j → is_script (job_of w.jobs z).script ≡ true → u ≤ v → v < n → is_active w u j ≡ true
    → returned w j u ≡ returned w j v → LowerLocal w (task_of w j) (task_of w z) → phase_of w v z ≡ Asking m q
    → HomeBlocked w v j z → phase_of w u z ≡ Asking m q
open_in_wait_slot w bound n u v j z m q window homes first script order l early same low asks b =
    elim (cases_lt u (issue_tick_of w v j)) [
      | inr later ↦ open_since w u v z m q asks (omega (arith, later, before)) order
      | inl soon ↦
          open_while_near w n u (issue_tick_of w v j) v j z m q homes script (omega (arith, soon)) (issue_at_most w v j) l early b.active
          (λ t from until k r e away.
          let inside : (s : ℕ) × (phase_of w v j ≡ Asking k s) =
          still_in w (is_away w.set (task_of w j)) j u t v k r from (omega (arith, until, issue_at_most w v j)) same e away in
          absurd (omega (arith, until, issue_no_later w t v j k r inside.0 e inside.1)))
          low (open_since w (issue_tick_of w v j) v z m q asks before (issue_at_most w v j))
    ] where
      before : issue_tick_of w v z ≤ issue_tick_of w v j
      before = first v z l b low.lower

pub open_in_slot : (w : Trace) (bound : ℕ → ℕ) (n u v j z m q : ℕ) (c : Class) → Window dpcp_charge w bound n j
    → RunsAtHomesBefore w n → LowerComesFirst w n j → is_script (job_of w.jobs z).script ≡ true → u ≤ v → v < n
    → is_active w u j ≡ true → returned w j u ≡ returned w j v → LowerLocal w (task_of w j) (task_of w z)
    → phase_of w v z ≡ Asking m q → DpcpReason w v j c z → phase_of w u z ≡ Asking m q
open_in_slot w bound n u v j z m q Direct window homes first script order l early same low asks why =
    open_in_wait_slot w bound n u v j z m q window homes first script order l early same low asks why.blocked
open_in_slot w bound n u v j z m q Indirect window homes first script order l early same low asks why =
    open_in_wait_slot w bound n u v j z m q window homes first script order l early same low asks why.blocked
open_in_slot w bound n u v j z m q Preemption window homes first script order l early same low asks why =
    open_in_local_slot w n u v j z m q homes script order l early same low asks why

-- The row of lower tasks.
pub lower_task_row_met : (w : Trace) (bound : ℕ → ℕ) (n j x : ℕ) → Window dpcp_charge w bound n j → RunsAtHomesBefore w n
    → LowerComesFirst w n j → is_lower_local w.set (task_of w j) x ≡ true
    → TicksMeet dpcp_charge w bound n j (lower_task_row w.set (task_of w j) x)
lower_task_row_met w bound n j x window homes first lower s share fair =
    slots_paid dpcp_charge w bound n j s share (λ c. c.task == x) (is_away w.set (task_of w j)) (returned w j) window fair
    (λ t. left_few w (is_away w.set (task_of w j)) j t) one where
      f : ColumnDef → ℕ
      f = λ c. flag (c.task == x) * share c.task c.resource

      task : (t : ℕ) → (h : Hit dpcp_charge w f j t) → task_of w h.charge.job ≡ x
      task t h = eqb-true _ _ (hit_passes dpcp_charge w j t share (λ c. c.task == x) h)

      one : (u v : ℕ) → u ≤ v → v < window_end w bound n j → (a : Hit dpcp_charge w f j u) → (b : Hit dpcp_charge w f j v)
          → returned w j u ≡ returned w j v → OneRequest w u v a.charge.job b.charge.job
      one u v order l a b same =
          let there : HitJob dpcp_charge w bound j u a.charge.job = hit_job dpcp_charge w bound n j u f window (omega arith) a in
          let later : HitJob dpcp_charge w bound j v b.charge.job = hit_job dpcp_charge w bound n j v f window l b in
          let script : is_script (job_of w.jobs b.charge.job).script ≡ true = (window.lawful.each b.charge.job later.listed).script in
          let low : LowerLocal w (task_of w j) (task_of w b.charge.job) = rw (task v b) (lower_local_is w (task_of w j) x lower) in
          let active : is_active w u j ≡ true = window.own u a.charge (omega arith) a.is_it in
          let opened : phase_of w u b.charge.job ≡ Asking b.number b.resource =
          open_in_slot w bound n u v j b.charge.job b.number b.resource b.charge.class window homes first script order (omega arith) active
          same low b.request (home_reason w v j b.charge (homes v (omega arith)) b.is_it) in
          one_open w n u v a.charge.job b.charge.job a.resource b.number b.resource (task_of w) window.active (tasks_ask_alone w n)
          (omega arith) script (requester_from w u a.resource a.charge.job a.number there.active a.request) (task u a ∙ sym (task v b))
          opened b.request

-- The row of lower preemption.
pub lower_preemption_row_met : (w : Trace) (bound : ℕ → ℕ) (n j : ℕ) → Window dpcp_charge w bound n j → RunsAtHomesBefore w n
    → TicksMeet dpcp_charge w bound n j (lower_preemption_row w.set (task_of w j))
lower_preemption_row_met w bound n j window homes s share fair =
    slots_paid dpcp_charge w bound n j s share counts (is_away w.set (task_of w j)) (returned w j) window fair
    (λ t. left_few w (is_away w.set (task_of w j)) j t) one where
      counts : ColumnDef → Bool
      counts = λ c. is_preemption c.class && is_lower_local w.set (task_of w j) c.task

      f : ColumnDef → ℕ
      f = λ c. flag (counts c) * share c.task c.resource

      parts : (t : ℕ) → (h : Hit dpcp_charge w f j t)
          → (is_preemption h.charge.class ≡ true) × (is_lower_local w.set (task_of w j) (task_of w h.charge.job) ≡ true)
      parts t h = and_parts _ _ (hit_passes dpcp_charge w j t share counts h)

      by : (t : ℕ) → t < n → (h : Hit dpcp_charge w f j t) → LocalBlocked w t j h.charge.job
      by t l h = blocked_by w t j h.charge.job h.charge.class (preemption_is h.charge.class (parts t h).0)
          (home_reason w t j h.charge (homes t l) h.is_it)

      low : (t : ℕ) → (h : Hit dpcp_charge w f j t) → LowerLocal w (task_of w j) (task_of w h.charge.job)
      low t h = lower_local_is w (task_of w j) (task_of w h.charge.job) (parts t h).1

      one : (u v : ℕ) → u ≤ v → v < window_end w bound n j → (a : Hit dpcp_charge w f j u) → (b : Hit dpcp_charge w f j v)
          → returned w j u ≡ returned w j v → OneRequest w u v a.charge.job b.charge.job
      one u v order l a b same =
          let early : LocalBlocked w u j a.charge.job = by u (omega arith) a in
          let late : LocalBlocked w v j b.charge.job = by v (omega arith) b in
          let script : is_script (job_of w.jobs b.charge.job).script ≡ true =
          (window.lawful.each b.charge.job (active_listed w v b.charge.job late.runner.active)).script in
          let opened : phase_of w u b.charge.job ≡ Asking late.runner.number late.runner.resource =
          open_in_local_slot w n u v j b.charge.job late.runner.number late.runner.resource homes script order (omega arith) early.active same
          (low v b) late.runner.request late in
          let job : a.charge.job ≡ b.charge.job =
          one_home w n u (processor_of w j) a.charge.job b.charge.job homes window.lawful (omega arith)
          (runs_at w u (processor_of w j) a.charge.job early.runner)
          (record {
            active = open_active w n u b.charge.job late.runner.number late.runner.resource window.active (omega arith) script opened;
            number = late.runner.number;
            resource = late.runner.resource;
            request = opened;
            home = late.runner.home;
          })
          (low u a).processor (low v b).processor in
          record { job = job; phase = ap (phase_of w u) job ∙ opened ∙ sym late.runner.request }
