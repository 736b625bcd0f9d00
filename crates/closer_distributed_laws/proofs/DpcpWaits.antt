-- What a job waits for under DPCP of lower tasks: a request that held its resource since the job's own was issued. On the job's own
-- processor there is none, since no request was there while the job ran its last Local tick.
use Rattle.std.proofs.Common.{◌≡◌, ℕ, suc, ◌<◌, ◌≤◌, ◌==◌, ◌&&◌, not, Bool, true, nat_lt, refl, sym, ap, ◌∙◌, arith, inl, inr, Some}
use Rattle.std.proofs.lemmas.Bool.{cases_Bool, and_parts, eqb-true, ltb-true, not-true}
use Rattle.sporadic_model.specs.Homes.{home_in}
use Rattle.schedule_model.specs.declared.rule.Rule.TheVariants as rule
use Rattle.schedule_model.specs.LawfulJobs.{AreLawfulJobs}
use Rattle.schedule_model.specs.RowDef.{Trace, jobs_of, is_job, holder_in}
use Rattle.schedule_model.specs.Phase.{phase_of}
use Rattle.schedule_model.specs.Phase.Phase.{Local, Asking}
use Rattle.schedule_model.specs.Activity.{task_of, processor_of, issue_tick_of}
use Rattle.schedule_model.specs.DpcpRules.{home_of}
use Rattle.schedule_model.specs.Protocols.{dpcp_rule}
use Rattle.schedule_model.specs.Keeping.{KeepsBefore}
use Rattle.schedule_laws.proofs.ActiveJobs.{active_listed}
use Rattle.schedule_laws.proofs.DpcpLaws.{dpcp_runs_active}
use Rattle.schedule_laws.proofs.Holders.{open_active, open_at}
use Rattle.schedule_laws.proofs.Issues.{issue_at_most, issue_no_later, open_at_issue}
use Rattle.schedule_laws.proofs.Rows.{job_named}
use Rattle.blocking_columns.specs.ColumnDef.{ColumnDef, is_preemption}
use Rattle.charge_laws.specs.Charges.{dpcp_charge}
use Rattle.charge_laws.proofs.DpcpCharging.{HomeBlocked, RunsAtHomesBefore, dpcp_at_homes, home_reason}
use Rattle.row_laws.specs.Meeting.{TicksMeet}
use Rattle.row_laws.proofs.Brings.{Window, Counted}
use Rattle.row_laws.proofs.LowerHolders.{Asks, asks_between}
use Rattle.row_laws.proofs.Ordered.{HoldsAt, holder_facts, new_granted}
use Rattle.row_laws.proofs.HomeRow.{home_blocked, runner_resource, held_since, no_low_grant}
use Rattle.closer_laws.proofs.LocalResources.{Issued, issued}
use Rattle.closer_laws.proofs.Waits.{never_met}
use Rattle.closer_distributed_laws.specs.CloserRows.{lower_wait_row}
use Rattle.closer_distributed_laws.proofs.OneHome.{quiet_home}
use Rattle.closer_distributed_laws.proofs.LowerRows.{LowerComesFirst}

pub dpcp_homes_before : (w : Trace) (n : ℕ) → KeepsBefore dpcp_rule w n → RunsAtHomesBefore w n
dpcp_homes_before w n keeps t l = dpcp_at_homes w t (keeps t l)

-- Job j waits at v for job z, which is of a lower task and held its resource since j's request was issued.
pub record HeldSince (w : Trace) (v j z q r : ℕ) : Type 0 where
  pub asks : Asks w (issue_tick_of w v j) v q j
  pub holds : (t : ℕ) → issue_tick_of w v j ≤ t → t ≤ v → holder_in (w.row t) r ≡ Some z

held_from : (w : Trace) (n v j z : ℕ) → AreLawfulJobs (jobs_of w) → KeepsBefore dpcp_rule w n → v < n → (b : HomeBlocked w v j z)
    → task_of w j < task_of w z → HeldSince w v j z b.resource b.runner.resource
held_from w n v j z lawful keeps l b lower = record {
  asks = asks;
  holds = held_since w n (issue_tick_of w v j) v b.resource b.runner.resource z j lawful keeps l asks (sym b.runner.home) lower
      b.runner.holder;
} where
  early : phase_of w (issue_tick_of w v j) j ≡ Asking b.number b.resource
  early = open_at_issue w v j b.number b.resource b.request

  asks : Asks w (issue_tick_of w v j) v b.resource j
  asks = asks_between w (issue_tick_of w v j) v b.number b.resource b.resource j (issue_at_most w v j)
      (open_active w n (issue_tick_of w v j) j b.number b.resource (dpcp_runs_active w n keeps)
      (omega (arith, issue_at_most w v j, l)) (lawful.each j (active_listed w v j b.active)).script early)
      early b.request

-- So it was issued no later.
pub dpcp_lower_first : (w : Trace) (n j : ℕ) → AreLawfulJobs (jobs_of w) → KeepsBefore dpcp_rule w n → LowerComesFirst w n j
dpcp_lower_first w n j lawful keeps v z l b lower =
    issue_no_later w (issue_tick_of w v j) v z b.runner.number b.runner.resource b.runner.resource
    (open_at w (issue_tick_of w v j) v z b.runner.number b.runner.resource
    (lawful.each z (active_listed w v z b.runner.active)).script (issue_at_most w v j) b.runner.request
    (λ t from before local runs. let a : HoldsAt w t b.runner.resource z =
    holder_facts w n t b.runner.resource z lawful keeps (omega (arith, l, before)) (since.holds t from (omega (arith, before))) in
    let x : Local ≡ Asking a.number b.runner.resource = sym local ∙ a.request in
    cc))
    b.runner.request where
      since : HeldSince w v j z b.resource b.runner.resource
      since = held_from w n v j z lawful keeps l b lower

-- On its own processor a job waits for none.
pub no_lower_wait : (w : Trace) (n v j z : ℕ) → AreLawfulJobs (jobs_of w) → KeepsBefore dpcp_rule w n → v < n → (b : HomeBlocked w v j z)
    → home_of w b.resource ≡ processor_of w j → task_of w j < task_of w z → ⊥
no_lower_wait w n v j z lawful keeps l b home lower =
    elim (cases_Bool (is_job z (holder_in (w.row a.before) b.runner.resource))) [
      | inl held ↦
          let h : HoldsAt w a.before b.runner.resource z =
          holder_facts w n a.before b.runner.resource z lawful keeps (omega (arith, l, last)) (job_named z _ held) in
          quiet_home w a.before (processor_of w j) z j (dpcp_homes_before w n keeps a.before (omega (arith, l, last)))
          (record {
            active = h.active;
            number = h.number;
            resource = b.runner.resource;
            request = h.request;
            home = b.runner.home ∙ home;
          })
          refl a.local a.runs
      | inr new ↦
          no_low_grant w (suc a.before) (home_of w b.runner.resource) b.resource z j lawful
          (new_granted w (suc a.before) b.runner.resource z (keeps (suc a.before) (omega (arith, l, last)) rule.Grant)
          (since.holds (suc a.before) (omega (arith, a.issue)) last) new)
          (since.asks.asks (suc a.before) (omega (arith, a.issue)) last) (sym b.runner.home) lower
    ] where
      a : Issued w v j
      a = issued w v j b.number b.resource (lawful.each j (active_listed w v j b.active)).script b.request

      last : suc a.before ≤ v
      last = omega (arith, issue_at_most w v j, a.issue)

      since : HeldSince w v j z b.resource b.runner.resource
      since = held_from w n v j z lawful keeps l b lower

-- The row of lower waits.
pub lower_wait_row_met : (w : Trace) (bound : ℕ → ℕ) (n j : ℕ) → Window dpcp_charge w bound n j → KeepsBefore dpcp_rule w n
    → TicksMeet dpcp_charge w bound n j (lower_wait_row w.set (task_of w j))
lower_wait_row_met w bound n j window keeps = never_met dpcp_charge w bound n j counts window never where
  counts : ColumnDef → Bool
  counts = λ c. nat_lt (task_of w j) c.task && (not (is_preemption c.class) && (home_in w.set c.resource == processor_of w j))

  never : (t : ℕ) → t < n → Counted dpcp_charge w counts j t → ⊥
  never t l c =
      let parts : (nat_lt (task_of w j) (task_of w c.charge.job) ≡ true)
      × ((not (is_preemption c.charge.class) && (home_in w.set c.resource == processor_of w j)) ≡ true) = and_parts _ _ c.passes in
      let rest : (not (is_preemption c.charge.class) ≡ true) × ((home_in w.set c.resource == processor_of w j) ≡ true) =
      and_parts _ _ parts.1 in
      let b : HomeBlocked w t j c.charge.job =
      home_blocked w t j c.charge.job c.charge.class (not-true _ rest.0)
      (home_reason w t j c.charge (dpcp_homes_before w n keeps t l) c.is_it) in
      let resource : b.runner.resource ≡ c.resource =
      runner_resource w t (home_of w b.resource) c.charge.job c.number c.resource b.runner c.request in
      no_lower_wait w n t j c.charge.job window.lawful keeps l b
      (sym b.runner.home ∙ ap (home_of w) resource ∙ eqb-true _ _ rest.1) (ltb-true _ _ parts.0)
