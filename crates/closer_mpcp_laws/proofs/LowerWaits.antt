-- The row of lower waits: under MPCP a lower holder holds since before the waiting job's issue. Just before that the job ran a Local tick,
-- so no job of its processor was a ready holder.
use Rattle.std.proofs.Common.{◌≡◌, ℕ, suc, ◌<◌, ◌≤◌, ◌&&◌, Bool, true, sym, ap, ◌∙◌, arith, inl, inr, Some}
use Rattle.std.proofs.lemmas.Bool.{cases_Bool, and_parts}
use Rattle.schedule_model.specs.declared.rule.Rule.TheVariants as rule
use Rattle.schedule_model.specs.JobDef.{job_of}
use Rattle.schedule_model.specs.LawfulJobs.{is_script, AreLawfulJobs}
use Rattle.schedule_model.specs.RowDef.{Trace, jobs_of, is_job, holder_in}
use Rattle.schedule_model.specs.Phase.{phase_of}
use Rattle.schedule_model.specs.Phase.Phase.{Asking}
use Rattle.schedule_model.specs.Activity.{task_of, is_active}
use Rattle.schedule_model.specs.Ranks.{mpcp}
use Rattle.schedule_model.specs.Protocols.{shared_rule}
use Rattle.schedule_model.specs.Keeping.{KeepsBefore}
use Rattle.schedule_laws.proofs.ActiveJobs.{Requester}
use Rattle.schedule_laws.proofs.Holders.{open_active}
use Rattle.schedule_laws.proofs.Issues.{issue_at_most, open_at_issue}
use Rattle.schedule_laws.proofs.Rows.{job_named, ready_holder_from}
use Rattle.schedule_laws.proofs.Segments.{open_listed}
use Rattle.schedule_laws.proofs.SharedLaws.{shared_runs_active}
use Rattle.blocking_columns.specs.ColumnDef.{ColumnDef, is_direct}
use Rattle.blocking_columns.specs.Columns.{is_lower_local}
use Rattle.charge_laws.specs.Charges.{shared_charge}
use Rattle.charge_laws.proofs.SharedCharging.{WaitsFor, DirectBy, shared_reason}
use Rattle.row_laws.specs.Meeting.{TicksMeet}
use Rattle.row_laws.proofs.Brings.{Window, Counted}
use Rattle.row_laws.proofs.Intervals.{LowerLocal, lower_local_is}
use Rattle.row_laws.proofs.LowerHolders.{mpcp_new, Asks, asks_between, held_since, holder_asks}
use Rattle.row_laws.proofs.Requests.{direct_is, direct_by}
use Rattle.closer_laws.proofs.LocalResources.{Issued, issued, no_holder_beside}
use Rattle.closer_laws.proofs.Waits.{never_met}
use Rattle.closer_mpcp_laws.specs.CloserMpcpRows.{lower_wait_row}

-- What a job requests no lower task of its processor holds.
pub not_held_lower : (w : Trace) (n t j y k q : ℕ) → KeepsBefore (shared_rule mpcp) w n → AreLawfulJobs (jobs_of w) → t < n
    → phase_of w t j ≡ Asking k q → holder_in (w.row t) q ≡ Some y → LowerLocal w (task_of w j) (task_of w y) → ⊥
not_held_lower w n t j y k q keeps lawful l request holder low = elim (cases_Bool (is_job y (holder_in (w.row v) q))) [
  | inr new ↦
      let most : task_of w y ≤ task_of w j =
      mpcp_new w (suc v) q y j (keeps (suc v) (omega (arith, early)) rule.Grant) held new (asks.asks (suc v) (omega arith) early) in
      omega (arith, low.lower, most)
  | inl old ↦
      let was : Requester w v q y =
      holder_asks mpcp w n v q y keeps (omega (arith, early)) (job_named y (holder_in (w.row v) q) old) in
      no_holder_beside mpcp w v j y (keeps v (omega (arith, early)) rule.Run) (keeps v (omega (arith, early)) rule.Priority) a.local a.runs
      low.processor (ready_holder_from w v y was.number q was.active was.phase (job_named y (holder_in (w.row v) q) old))
] where
  script : is_script (job_of w.jobs j).script ≡ true
  script = (lawful.each j (open_listed w t j k q request)).script

  a : Issued w t j
  a = issued w t j k q script request

  v : ℕ
  v = a.before

  early : suc v ≤ t
  early = omega (arith, issue_at_most w t j, a.issue)

  at : phase_of w (suc v) j ≡ Asking k q
  at = ap (λ s. phase_of w s j) (sym a.issue) ∙ open_at_issue w t j k q request

  active : is_active w (suc v) j ≡ true
  active = open_active w n (suc v) j k q (shared_runs_active mpcp w n keeps) (omega (arith, early)) script at

  asks : Asks w (suc v) t q j
  asks = asks_between w (suc v) t k q q j early active at request

  held : holder_in (w.row (suc v)) q ≡ Some y
  held = held_since w n (suc v) t q y j keeps l asks low.lower holder (suc v) (omega arith) early

-- So a job never waits for one.
pub waits_not_lower : (w : Trace) (n t j y : ℕ) → KeepsBefore (shared_rule mpcp) w n → AreLawfulJobs (jobs_of w) → t < n
    → WaitsFor w t j y → LowerLocal w (task_of w j) (task_of w y) → ⊥
waits_not_lower w n t j y keeps lawful l waits low =
    not_held_lower w n t j y waits.number waits.resource keeps lawful l waits.request waits.holder low

-- The row of lower waits.
pub lower_wait_row_met : (w : Trace) (bound : ℕ → ℕ) (n j : ℕ) → Window shared_charge w bound n j → KeepsBefore (shared_rule mpcp) w n
    → TicksMeet shared_charge w bound n j (lower_wait_row w.set (task_of w j))
lower_wait_row_met w bound n j window keeps = never_met shared_charge w bound n j counts window never where
  counts : ColumnDef → Bool
  counts = λ c. is_direct c.class && is_lower_local w.set (task_of w j) c.task

  never : (t : ℕ) → t < n → Counted shared_charge w counts j t → ⊥
  never t l c =
      let both : (is_direct c.charge.class ≡ true) × (is_lower_local w.set (task_of w j) (task_of w c.charge.job) ≡ true) =
      and_parts _ _ c.passes in
      let why : DirectBy w t j c.charge.job =
      direct_by mpcp w t j c.charge.job c.charge.class (direct_is c.charge.class both.0)
      (shared_reason mpcp w t j c.charge (keeps t l) c.is_it) in
      waits_not_lower w n t j c.charge.job keeps window.lawful l why.waits
      (lower_local_is w (task_of w j) (task_of w c.charge.job) both.1)
