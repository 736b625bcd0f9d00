-- What runs where a job waits was issued no later than the job's own request: it goes before the holder of what the job requests,
-- and that one was granted in the order of issue. So the rows of turns and of queues at homes are met.
use Rattle.std.proofs.Common.{◌≡◌, ℕ, ◌<◌, ◌≤◌, ◌==◌, ◌&&◌, not, Bool, true, refl, sym, ap, subst, ◌∙◌, arith, Option, Some, None}
use Rattle.std.proofs.lemmas.Bool.{and_parts, both_ways, eqb-true, eq-eqb, not-true}
use Rattle.sporadic_model.specs.Homes.{home_in}
use Rattle.schedule_model.specs.declared.rule.Rule.TheVariants as rule
use Rattle.schedule_model.specs.LawfulJobs.{AreLawfulJobs}
use Rattle.schedule_model.specs.RowDef.{Trace, jobs_of, holder_in, running_on}
use Rattle.schedule_model.specs.Activity.{task_of, is_requester, issue_tick_of}
use Rattle.schedule_model.specs.SharedRules.{KeepsGrant}
use Rattle.schedule_model.specs.DpcpRules.{home_of, has_requests, holds_at, RunsFirstHolder, KeepsPriority}
use Rattle.schedule_model.specs.Ranks.{fmlp_plus}
use Rattle.schedule_model.specs.Keeping.{KeepsBefore}
use Rattle.schedule_laws.proofs.ActiveJobs.{Requester, requester_is, requester_from, requester_listed, active_listed}
use Rattle.schedule_laws.proofs.RuleUses.{request_among}
use Rattle.blocking_columns.specs.declared.columns.Class.{Class}
use Rattle.blocking_columns.specs.declared.columns.Class.TheVariants.{Direct}
use Rattle.blocking_columns.specs.ColumnDef.{ColumnDef, is_direct, is_preemption}
use Rattle.direct_constraints.specs.Rows.{turn_row}
use Rattle.charge_laws.specs.Charges.{dpcp_charge}
use Rattle.charge_laws.proofs.DpcpCharging.{HomeBlocked, DirectAtHome, DpcpReason, request_at_from, home_reason}
use Rattle.row_laws.specs.Meeting.{TicksMeet}
use Rattle.row_laws.proofs.Brings.{Window, Counted}
use Rattle.row_laws.proofs.Requests.{direct_is, tasks_ask_alone}
use Rattle.row_laws.proofs.Fifo.{InTurn, turns_met, turn_row_by, fifo_holder}
use Rattle.row_laws.proofs.Ordered.{holds_at_home}
use Rattle.row_laws.proofs.HomeRow.{home_blocked, runner_resource}
use Rattle.dflp_laws.specs.Rules.{dflp_rule}
use Rattle.dflp_laws.specs.Programs.{home_queue_row}
use Rattle.dflp_laws.proofs.Laws.{homes_before, dflp_runs_active, grants_by_issue}

-- A holder of what is requested at a processor holds there.
holds_there : (w : Trace) (t q y : ℕ) → is_requester w t q y ≡ true → holder_in (w.row t) q ≡ Some y → holds_at w t (home_of w q) y ≡ true
holds_there w t q y asks held =
    let a : Requester w t q y = requester_is w t q y asks in holds_at_home w t q y a.number a.active a.phase held

-- Where a resource is requested it has a holder, which was issued no later; and what runs at its home was issued no later than that.
runner_first : (w : Trace) (n t q j r : ℕ) → AreLawfulJobs (jobs_of w) → KeepsBefore dflp_rule w n → t < n
    → is_requester w t q j ≡ true → running_on (w.row t) (home_of w q) ≡ Some r → issue_tick_of w t r ≤ issue_tick_of w t j
runner_first w n t q j r lawful keeps l asks runs = go (holder_in (w.row t) q) refl where
  grant : KeepsGrant fmlp_plus w t
  grant = keeps t l rule.Grant

  priority : KeepsPriority issue_tick_of w t
  priority = keeps t l rule.Priority

  mine : Requester w t q j
  mine = requester_is w t q j asks

  some : has_requests w t (home_of w q) ≡ true
  some = request_among w t (home_of w q) j (active_listed w t j mine.active) (request_at_from w t j mine.number q mine.active mine.phase)

  first : RunsFirstHolder issue_tick_of w t (home_of w q)
  first = priority.requests (home_of w q) some

  same : first.runner ≡ r
  same = let x : Some first.runner ≡ Some r = sym first.runs ∙ runs in cc

  go : (o : Option ℕ) → holder_in (w.row t) q ≡ o → issue_tick_of w t r ≤ issue_tick_of w t j
  go None e = absurd (both_ways (is_requester w t q j) (grant.free q e j (requester_listed w t q j asks)) asks)
  go (Some y) e =
      let theirs : is_requester w t q y ≡ true = grant.requests q y e in
      let early : issue_tick_of w t first.runner ≤ issue_tick_of w t y =
      first.first y (requester_listed w t q y theirs) (holds_there w t q y theirs e) in
      let late : issue_tick_of w t y ≤ issue_tick_of w t j =
      fifo_holder w n t q y j lawful (dflp_runs_active w n keeps) (grants_by_issue w n keeps) l e asks in
      omega (arith, early, late, ap (issue_tick_of w t) same)

pub runs_in_turn : (w : Trace) (n t j r : ℕ) (ok : ℕ → Bool) → AreLawfulJobs (jobs_of w) → KeepsBefore dflp_rule w n → t < n
    → (b : HomeBlocked w t j r) → ok b.resource ≡ true → InTurn w t j r ok
runs_in_turn w n t j r ok lawful keeps l b passes = record {
  own = record { number = b.number; resource = b.resource; request = b.request; passes = passes };
  earlier = runner_first w n t b.resource j r lawful keeps l (requester_from w t b.resource j b.number b.active b.request) b.runner.runs;
}

-- A direct charge is to a request of what the job requests.
direct_at : (w : Trace) (t j r : ℕ) (c : Class) → c ≡ Direct → DpcpReason w t j c r → DirectAtHome w t j r
direct_at w t j r c e why = subst (λ (d : Class). DpcpReason w t j d r) e why

-- The row of turns.
pub home_turn_row_met : (w : Trace) (bound : ℕ → ℕ) (n j x q : ℕ) → Window dpcp_charge w bound n j → KeepsBefore dflp_rule w n
    → TicksMeet dpcp_charge w bound n j (turn_row w.set (task_of w j) x q)
home_turn_row_met w bound n j x q window keeps = turn_row_by dpcp_charge w bound n j x q window (λ t l c. direct t l c) where
  direct : (t : ℕ) → t < n → (c : Counted dpcp_charge w (λ d. is_direct d.class) j t) → InTurn w t j c.charge.job (λ r. r == c.resource)
  direct t l c =
      let why : DirectAtHome w t j c.charge.job =
      direct_at w t j c.charge.job c.charge.class (direct_is c.charge.class c.passes)
      (home_reason w t j c.charge (homes_before w n keeps t l) c.is_it) in
      let same : why.blocked.runner.resource ≡ c.resource =
      runner_resource w t (home_of w why.blocked.resource) c.charge.job c.number c.resource why.blocked.runner c.request in
      runs_in_turn w n t j c.charge.job (λ r. r == c.resource) window.lawful keeps l why.blocked
      (eq-eqb why.blocked.resource c.resource (sym why.same ∙ same))

-- The row of queues at a home.
pub home_queue_row_met : (w : Trace) (bound : ℕ → ℕ) (n j x k : ℕ) → Window dpcp_charge w bound n j → KeepsBefore dflp_rule w n
    → TicksMeet dpcp_charge w bound n j (home_queue_row w.set (task_of w j) x k)
home_queue_row_met w bound n j x k window keeps s share fair =
    turns_met dpcp_charge w bound n j x s share counts (task_of w) (λ q. home_in w.set q == k) window (tasks_ask_alone w n) turns fair where
      counts : ColumnDef → Bool
      counts = λ c. ((c.task == x) && not (is_preemption c.class)) && (home_in w.set c.resource == k)

      turns : (t : ℕ) → t < n → (c : Counted dpcp_charge w counts j t)
          → (task_of w c.charge.job ≡ x) × InTurn w t j c.charge.job (λ q. home_in w.set q == k)
      turns t l c =
          let parts : (((task_of w c.charge.job == x) && not (is_preemption c.charge.class)) ≡ true)
          × ((home_in w.set c.resource == k) ≡ true) =
          and_parts _ _ c.passes in
          let both : ((task_of w c.charge.job == x) ≡ true) × (not (is_preemption c.charge.class) ≡ true) = and_parts _ _ parts.0 in
          let b : HomeBlocked w t j c.charge.job =
          home_blocked w t j c.charge.job c.charge.class (not-true _ both.1)
          (home_reason w t j c.charge (homes_before w n keeps t l) c.is_it) in
          let same : b.runner.resource ≡ c.resource =
          runner_resource w t (home_of w b.resource) c.charge.job c.number c.resource b.runner c.request in (
            eqb-true _ _ both.0,
            runs_in_turn w n t j c.charge.job (λ q. home_in w.set q == k) window.lawful keeps l b
                (eq-eqb (home_of w b.resource) k (sym b.runner.home ∙ ap (home_of w) same ∙ eqb-true _ _ parts.1)),
          )
