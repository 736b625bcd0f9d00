-- Under DPCP a tick is charged in a column of the blocked job's program.
use Rattle.std.proofs.Common.{◌≡◌, ℕ, ◌<◌, ◌≤◌, ◌==◌, ◌&&◌, ◌||◌, not, true, length, sym, ap, ◌∙◌, inl, inr, nat_le, nat_lt}
use Rattle.std.proofs.lemmas.Bool.{cases_lt, and_from, or_left, or_right, eq-eqb, le-leb, le-ltb, not_from_false}
use Rattle.number_laws.proofs.TestLaws.{any_below-from}
use Rattle.sporadic_model.specs.Homes.{home_in}
use Rattle.sporadic_model.specs.Users.{is_user}
use Rattle.sporadic_model.specs.declared.ids.Protocol.TheVariants as protocol
use Rattle.schedule_model.specs.LawfulJobs.{AreLawfulJobs}
use Rattle.schedule_model.specs.RowDef.{Trace, jobs_of, runs_in}
use Rattle.schedule_model.specs.Phase.{phase_of}
use Rattle.schedule_model.specs.Phase.Phase.{Asking}
use Rattle.schedule_model.specs.Activity.{task_of, processor_of, is_active}
use Rattle.schedule_model.specs.DpcpRules.{home_of}
use Rattle.schedule_model.specs.Protocols.{dpcp_rule}
use Rattle.schedule_model.specs.Keeping.{KeepsBefore}
use Rattle.schedule_model.specs.BlockedTicks.{is_dpcp_interference, is_blocked}
use Rattle.schedule_laws.proofs.ActiveJobs.{active_listed}
use Rattle.schedule_laws.proofs.KindsOfTicks.{Blocked, blocked_is}
use Rattle.schedule_laws.proofs.Segments.{open_listed, open_resource, open_user}
use Rattle.blocking_columns.specs.declared.columns.Class.{Class}
use Rattle.blocking_columns.specs.declared.columns.Class.TheVariants.{Direct, Indirect, Preemption}
use Rattle.blocking_columns.specs.Ceilings.{ceiling_rank}
use Rattle.blocking_columns.specs.Columns.{requests_beside, may_block}
use Rattle.charge_laws.proofs.DpcpCharging.{HomeBlocked, LocalBlocked, DirectAtHome, DpcpReason}
use Rattle.row_laws.proofs.SharedPlacement.{IsPlaced, other_task, passes_not}
use Rattle.row_laws.proofs.HomeRow.{low_runner, runner_resource}
use Rattle.row_laws.proofs.Ordered.{LowRunner, low_ceiling}

-- Job j requests the resource whose request runs, if it is charged directly.
pub requested_there : (w : Trace) (t j r m q : ℕ) → AreLawfulJobs (jobs_of w) → j < length w.jobs → phase_of w t r ≡ Asking m q
    → DirectAtHome w t j r → is_user w.set q (task_of w j) ≡ true
requested_there w t j r m q lawful listed e a =
    let same : a.blocked.resource ≡ q =
    sym a.same ∙ runner_resource w t (home_of w a.blocked.resource) r m q a.blocked.runner e in
    ap (λ k. is_user w.set k (task_of w j)) (sym same)
    ∙ open_user w.set w t j a.blocked.number a.blocked.resource (lawful.each j listed) a.blocked.request

-- The request runs on job j's processor, if it is charged by preemption.
pub home_there : (w : Trace) (t j r m q : ℕ) → phase_of w t r ≡ Asking m q → LocalBlocked w t j r
    → (home_of w q == processor_of w j) ≡ true
home_there w t j r m q e a = eq-eqb (home_of w q) (processor_of w j)
    (ap (home_of w) (sym (runner_resource w t (processor_of w j) r m q a.runner e)) ∙ a.runner.home)

-- Job j requests another resource of the home at which the request runs.
pub beside_there : (w : Trace) (t j r m q : ℕ) → AreLawfulJobs (jobs_of w) → j < length w.jobs → phase_of w t r ≡ Asking m q
    → (b : HomeBlocked w t j r) → ((b.runner.resource ≡ b.resource) → ⊥)
    → requests_beside w.set (task_of w j) q ≡ true
beside_there w t j r m q lawful listed e b other =
    any_below-from (length w.set.resources)
    (λ k. not (k == q) && (is_user w.set k (task_of w j) && (home_in w.set k == home_in w.set q))) b.resource
    (open_resource w.set w t j b.number b.resource (lawful.each j listed) b.request)
    (and_from _ _ (passes_not b.resource q (λ x. other (same ∙ sym x)))
    (and_from _ _ (open_user w.set w t j b.number b.resource (lawful.each j listed) b.request)
    (eq-eqb (home_of w b.resource) (home_of w q) (sym b.runner.home ∙ ap (home_of w) same)))) where
      same : b.runner.resource ≡ q
      same = runner_resource w t (home_of w b.resource) r m q b.runner e

-- A lower request runs only where its resource's ceiling is no lower than j.
pub lower_only : (w : Trace) (n t j r m q : ℕ) → AreLawfulJobs (jobs_of w) → KeepsBefore dpcp_rule w n → t < n → phase_of w t r ≡ Asking m q
    → HomeBlocked w t j r
    → (not (nat_lt (task_of w j) (task_of w r)) || nat_le (ceiling_rank w.set q) (task_of w j)) ≡ true
lower_only w n t j r m q lawful keeps l e b = elim (cases_lt (task_of w j) (task_of w r)) [
  | inr no_lower ↦ or_left _ _ (not_from_false _ (le-ltb _ _ no_lower))
  | inl lower ↦
      let low : LowRunner w t (home_of w b.resource) j r = low_runner w t j r b lower in
      let same : low.runner.resource ≡ q = runner_resource w t (home_of w b.resource) r m q low.runner e in
      let most : ceiling_rank w.set low.runner.resource ≤ task_of w j = low_ceiling w n t (home_of w b.resource) j r lawful keeps l low in
      let here : ceiling_rank w.set q ≤ task_of w j = rw (← same) most in
      or_right _ _ (le-leb _ _ here)
]

pub blocks_there : (w : Trace) (n t j r m q : ℕ) (c : Class) → AreLawfulJobs (jobs_of w) → KeepsBefore dpcp_rule w n → t < n
    → j < length w.jobs → phase_of w t r ≡ Asking m q → DpcpReason w t j c r
    → may_block protocol.Dpcp w.set (task_of w j) (task_of w r) q c ≡ true
blocks_there w n t j r m q Direct lawful keeps l listed e why = requested_there w t j r m q lawful listed e why
blocks_there w n t j r m q Indirect lawful keeps l listed e why =
    and_from _ _ (lower_only w n t j r m q lawful keeps l e why.blocked) (beside_there w t j r m q lawful listed e why.blocked why.other)
blocks_there w n t j r m q Preemption lawful keeps l listed e why = home_there w t j r m q e why

pub runner_active : (w : Trace) (t j r : ℕ) (c : Class) → DpcpReason w t j c r → is_active w t r ≡ true
runner_active w t j r Direct why = why.blocked.runner.active
runner_active w t j r Indirect why = why.blocked.runner.active
runner_active w t j r Preemption why = why.runner.active

-- The column in which a tick is charged is in the program.
pub dpcp_placed : (w : Trace) (n t j r m q : ℕ) (c : Class) → AreLawfulJobs (jobs_of w) → KeepsBefore dpcp_rule w n → t < n
    → is_blocked is_dpcp_interference w t j ≡ true → runs_in (w.row t) r ≡ true
    → phase_of w t r ≡ Asking m q → DpcpReason w t j c r → IsPlaced protocol.Dpcp w (task_of w j) (task_of w r) q c
dpcp_placed w n t j r m q c lawful keeps l blocked runs e why =
    let b : Blocked is_dpcp_interference w t j = blocked_is is_dpcp_interference w t j blocked in
    let listed : r < length w.jobs = open_listed w t r m q e in
    record {
      task = (lawful.each r listed).task;
      resource = open_resource w.set w t r m q (lawful.each r listed) e;
      column = and_from _ _
          (and_from _ _ (passes_not (task_of w r) (task_of w j) (other_task w t j r b.active b.waits (runner_active w t j r c why) runs))
          (open_user w.set w t r m q (lawful.each r listed) e))
          (blocks_there w n t j r m q c lawful keeps l (active_listed w t j b.active) e why);
    }
