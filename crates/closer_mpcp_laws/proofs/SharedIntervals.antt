-- The row of shared intervals: what a lower task of the job's processor preempts with between two grants of requests that are shared out
-- was open all the while.
use Rattle.std.proofs.Common.{◌≡◌, ℕ, ◌*◌, ◌<◌, ◌≤◌, ◌==◌, ◌&&◌, Bool, true, sym, ◌∙◌, arith}
use Rattle.std.proofs.lemmas.Bool.{and_parts, eqb-true}
use Rattle.number_laws.specs.Sums.{flag}
use Rattle.schedule_model.specs.declared.rule.Rule.TheVariants as rule
use Rattle.schedule_model.specs.RowDef.{Trace}
use Rattle.schedule_model.specs.Activity.{task_of}
use Rattle.schedule_model.specs.Ranks.{mpcp}
use Rattle.schedule_model.specs.Protocols.{shared_rule}
use Rattle.schedule_model.specs.Keeping.{KeepsBefore}
use Rattle.schedule_laws.proofs.Rows.{ready_active}
use Rattle.blocking_columns.specs.ColumnDef.{ColumnDef, is_preemption}
use Rattle.charge_laws.specs.Charges.{shared_charge}
use Rattle.charge_laws.specs.Windows.{window_end}
use Rattle.charge_laws.proofs.SharedCharging.{PreemptedBy, shared_reason}
use Rattle.row_laws.specs.Meeting.{TicksMeet}
use Rattle.row_laws.proofs.Brings.{Window, Hit}
use Rattle.row_laws.proofs.SlotRow.{OneRequest}
use Rattle.row_laws.proofs.JobRows.{HitJob, hit_job}
use Rattle.row_laws.proofs.Requests.{preemption_is, one_request}
use Rattle.row_laws.proofs.Intervals.{LowerLocal, preempted_by}
use Rattle.closer_laws.proofs.Granted.{granted}
use Rattle.closer_laws.proofs.Slots.{hit_passes}
use Rattle.closer_laws.proofs.LowerRows.{granted_slots, no_local_run, preempting_low}
use Rattle.closer_mpcp_laws.specs.CloserMpcpRows.{shared_interval_row}

pub shared_interval_row_met : (w : Trace) (bound : ℕ → ℕ) (n j x : ℕ) → Window shared_charge w bound n j
    → KeepsBefore (shared_rule mpcp) w n → TicksMeet shared_charge w bound n j (shared_interval_row w.set (task_of w j) x)
shared_interval_row_met w bound n j x window keeps s share fair = granted_slots w bound n j s share counts window fair one where
  counts : ColumnDef → Bool
  counts = λ c. (c.task == x) && is_preemption c.class

  f : ColumnDef → ℕ
  f = λ c. flag (counts c) * share c.task c.resource

  parts : (t : ℕ) → (h : Hit shared_charge w f j t) → (task_of w h.charge.job ≡ x) × (is_preemption h.charge.class ≡ true)
  parts t h =
      let both : ((task_of w h.charge.job == x) ≡ true) × (is_preemption h.charge.class ≡ true) =
      and_parts _ _ (hit_passes shared_charge w j t share counts h) in
      (eqb-true _ _ both.0, both.1)

  by : (t : ℕ) → t < n → (h : Hit shared_charge w f j t) → PreemptedBy w t j h.charge.job
  by t l h = preempted_by mpcp w t j h.charge.job h.charge.class (preemption_is h.charge.class (parts t h).1)
      (shared_reason mpcp w t j h.charge (keeps t l) h.is_it)

  one : (u v : ℕ) → u ≤ v → v < window_end w bound n j → (a : Hit shared_charge w f j u) → (b : Hit shared_charge w f j v)
      → granted w j u ≡ granted w j v → OneRequest w u v a.charge.job b.charge.job
  one u v order l a b same =
      let early : PreemptedBy w u j a.charge.job = by u (omega arith) a in
      let late : PreemptedBy w v j b.charge.job = by v (omega arith) b in
      let there : HitJob shared_charge w bound j u a.charge.job = hit_job shared_charge w bound n j u f window (omega arith) a in
      let later : HitJob shared_charge w bound j v b.charge.job = hit_job shared_charge w bound n j v f window l b in
      let low : LowerLocal w (task_of w j) (task_of w b.charge.job) =
      preempting_low w v j b.charge.job (keeps v (omega arith) rule.Run) late in
      one_request w n u v a.charge.job b.charge.job b.number b.resource window.active (omega arith) order
      (window.lawful.each b.charge.job later.listed).script there.active ((parts u a).0 ∙ sym (parts v b).0) b.request
      (λ t from before local runs. no_local_run mpcp w bound n u t v j b.charge.job window keeps from (omega arith) (omega arith)
      (ready_active w u j early.ready) late.ready (omega (arith, same)) low local runs)
