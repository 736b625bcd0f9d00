-- The column in which a charged tick lies is one of the blocked job's program.
use Rattle.std.proofs.Common.{◌≡◌, ℕ, ◌<◌, ◌==◌, ◌&&◌, not, true, length}
use Rattle.std.proofs.lemmas.Bool.{and_parts, and_from}
use Rattle.sporadic_model.specs.SetDef.{SetDef}
use Rattle.sporadic_model.specs.Users.{is_user}
use Rattle.schedule_model.specs.LawfulJobs.{AreLawfulJobs}
use Rattle.schedule_model.specs.RowDef.{Trace, jobs_of}
use Rattle.schedule_model.specs.Phase.{phase_of}
use Rattle.schedule_model.specs.Phase.Phase.{Asking}
use Rattle.schedule_model.specs.Activity.{task_of}
use Rattle.schedule_model.specs.Keeping.{KeepsBefore}
use Rattle.schedule_model.specs.BlockedTicks.{is_dpcp_interference, is_blocked}
use Rattle.schedule_laws.proofs.ActiveJobs.{active_listed}
use Rattle.schedule_laws.proofs.KindsOfTicks.{Blocked, blocked_is}
use Rattle.schedule_laws.proofs.Segments.{open_listed, open_resource, open_user}
use Rattle.blocking_columns.specs.declared.columns.Class.{Class}
use Rattle.blocking_columns.specs.declared.columns.Class.TheVariants.{Direct, Indirect, Preemption}
use Rattle.blocking_columns.specs.Columns.{AreRequests, blocks_at_home}
use Rattle.charge_laws.specs.Charges.{dpcp_charge, Executes}
use Rattle.charge_laws.specs.ChargedTicks.{IsCharged}
use Rattle.charge_laws.proofs.DpcpCharging.{DpcpReason, DpcpCharged, RunsAtHomes, home_charged, home_executes}
use Rattle.row_laws.proofs.Brings.{column_with}
use Rattle.row_laws.proofs.SharedPlacement.{other_task, passes_not}
use Rattle.row_laws.proofs.DpcpPlacement.{requested_there, home_there, beside_there, runner_active}
use Rattle.row_laws.proofs.Joined.{column_from, passing_among}
use Rattle.row_laws.proofs.ChargedTicks.{is_charged_in}
use Rattle.dflp_laws.specs.Rules.{dflp_rule}
use Rattle.dflp_laws.specs.Programs.{is_dflp_column, dflp_columns}
use Rattle.dflp_laws.proofs.Laws.{dflp_at_homes}

-- Columns are requests of users.
pub columns_are_requests : (set : SetDef) (i : ℕ) → AreRequests (is_dflp_column set i) set
columns_are_requests set i c h = (and_parts _ _ (and_parts (not (c.task == i) && is_user set c.resource c.task) _ h).0).1

may_block_there : (w : Trace) (t j r m q : ℕ) (c : Class) → AreLawfulJobs (jobs_of w) → j < length w.jobs → phase_of w t r ≡ Asking m q
    → DpcpReason w t j c r → blocks_at_home w.set (task_of w j) q c ≡ true
may_block_there w t j r m q Direct lawful listed e why = requested_there w t j r m q lawful listed e why
may_block_there w t j r m q Indirect lawful listed e why = beside_there w t j r m q lawful listed e why.blocked why.other
may_block_there w t j r m q Preemption lawful listed e why = home_there w t j r m q e why

-- Each blocked tick is charged to a request that executes, in one of the columns.
pub dflp_is_charged : (w : Trace) (n t j : ℕ) → AreLawfulJobs (jobs_of w) → KeepsBefore dflp_rule w n → t < n
    → is_blocked is_dpcp_interference w t j ≡ true → IsCharged dpcp_charge (dflp_columns w.set (task_of w j)) w t j
dflp_is_charged w n t j lawful keeps l blocked =
    is_charged_in dpcp_charge (dflp_columns w.set (task_of w j)) w t j s.charge s.is_it e
    (record {
      column = column_with w s.charge e.resource;
      is_it = column_from dpcp_charge w t j e.number e.resource s.charge s.is_it e.request;
      there = passing_among (is_dflp_column w.set (task_of w j)) w.set (task_of w s.charge.job) e.resource s.charge.class
          (lawful.each s.charge.job listed).task
          (open_resource w.set w t s.charge.job e.number e.resource (lawful.each s.charge.job listed) e.request)
          (and_from _ _
          (and_from _ _ (passes_not (task_of w s.charge.job) (task_of w j)
          (other_task w t j s.charge.job b.active b.waits (runner_active w t j s.charge.job s.charge.class s.why) e.runs))
          (open_user w.set w t s.charge.job e.number e.resource (lawful.each s.charge.job listed) e.request))
          (may_block_there w t j s.charge.job e.number e.resource s.charge.class lawful (active_listed w t j b.active) e.request s.why));
    }) where
      homes : RunsAtHomes w t
      homes = dflp_at_homes w t (keeps t l)

      b : Blocked is_dpcp_interference w t j
      b = blocked_is is_dpcp_interference w t j blocked

      s : DpcpCharged w t j
      s = home_charged w t j homes blocked

      e : Executes w t s.charge
      e = home_executes w t j s.charge homes s.is_it

      listed : s.charge.job < length w.jobs
      listed = open_listed w t s.charge.job e.number e.resource e.request
