-- The worked schedules under FMLP+ and MPCP.
use Rattle.std.proofs.Common.{◌≡◌, ℕ, zero, suc, ◌<◌, ◌≤◌, true, false, List, [], ◌∷◌, refl, arith, Some, None}
use Rattle.sporadic_model.specs.Users.{ceiling_of, remote_ceiling_of}
use Rattle.schedule_model.specs.RowDef.{runs_in}
use Rattle.schedule_model.specs.Phase.{phase_from, executed, phase_of}
use Rattle.schedule_model.specs.Phase.Phase.{Local, Asking, Finished}
use Rattle.schedule_model.specs.Activity.{is_pending, is_next, is_active, is_requester, issue_tick_of, is_active_local}
use Rattle.schedule_model.specs.Activity.{is_ready_holder, is_ready}
use Rattle.schedule_model.specs.Ranks.{mpcp, fmlp_plus}
use Rattle.schedule_model.specs.Protocols.{shared_rule}
use Rattle.schedule_model.specs.Keeping.{KeepsBefore, IsFirstUnlawful}
use Rattle.schedule_model.specs.BlockedTicks.{is_delayed, runs_higher, is_shared_interference, is_blocked}
use Rattle.schedule_model.specs.Measures.{has_finished, finish_of, response_of, blocking_of, counts_for, finished_jobs, measures_of}
use Rattle.schedule_model.specs.declared.rule.Rule.TheVariants as rule
use Rattle.schedule_model.proofs.RuleTests.{passes_shared, shared_from}
use Rattle.number_laws.proofs.TestLaws.{all_below-each}
use Rattle.schedule_model.specs.Chosen.{IsSharedChoice}
use Rattle.schedule_model.proofs.ChoiceTests.{passes_choice, choice_from}
use Rattle.schedule_model.proofs.KeepingTests.{keeps_from, first_from}
use Rattle.schedule_model.proofs.WorkedFiles.{trace_a, trace_chosen, trace_late, trace_run, trace_twice, trace_idle}
use Rattle.schedule_model.proofs.WorkedFiles.{trace_keep, trace_grant, trace_priority, trace_boost, set_boost}

-- What holds at ticks 0 to 4, in a list.
abbrev pub at_five : {A : Type 0} → (ℕ → A) → List A
at_five f = f 0 ∷ f 1 ∷ f 2 ∷ f 3 ∷ f 4 ∷ []

-- The phases of both jobs: the first waits at ticks 1 and 2 while the second's request runs.
pub phases_of_first : at_five (λ t. phase_of trace_a t 0) ≡ Local ∷ Asking 0 0 ∷ Asking 0 0 ∷ Asking 0 0 ∷ Local ∷ []
unfolding phase_of phase_from executed runs_in
phases_of_first = refl

pub phases_of_second : at_five (λ t. phase_of trace_a t 1) ≡ Local ∷ Asking 0 0 ∷ Asking 0 0 ∷ Local ∷ Finished ∷ []
unfolding phase_of phase_from executed runs_in
phases_of_second = refl

-- Both requests are issued at tick 1.
pub issues_of_first : issue_tick_of trace_a 1 0 ∷ issue_tick_of trace_a 2 0 ∷ issue_tick_of trace_a 3 0 ∷ [] ≡ 1 ∷ 1 ∷ 1 ∷ []
unfolding phase_of phase_from executed runs_in issue_tick_of
issues_of_first = refl

pub issues_of_second : issue_tick_of trace_a 1 1 ∷ issue_tick_of trace_a 2 1 ∷ [] ≡ 1 ∷ 1 ∷ []
unfolding phase_of phase_from executed runs_in issue_tick_of
issues_of_second = refl

-- The first is blocked at ticks 1 and 2, the second never.
pub blocked_of_first : at_five (λ t. is_blocked is_shared_interference trace_a t 0) ≡ false ∷ true ∷ true ∷ false ∷ false ∷ []
unfolding phase_of phase_from executed runs_in is_pending is_next is_active is_delayed runs_higher is_shared_interference is_blocked
blocked_of_first = refl

pub blocked_of_second : at_five (λ t. is_blocked is_shared_interference trace_a t 1) ≡ false ∷ false ∷ false ∷ false ∷ false ∷ []
unfolding phase_of phase_from executed runs_in is_pending is_next is_active is_delayed runs_higher is_shared_interference is_blocked
blocked_of_second = refl

-- Each finishes: the first after 5 ticks, 2 of them blocked, the second after 4.
pub measures_of_a : measures_of is_shared_interference trace_a 5 0 ∷ measures_of is_shared_interference trace_a 5 1 ∷ []
    ≡ record { finished = 1; response = Some 5; blocking = 2 } ∷ record { finished = 1; response = Some 4; blocking = 0 } ∷ []
unfolding phase_of phase_from executed runs_in is_pending is_next is_active is_delayed runs_higher
    is_shared_interference is_blocked has_finished finish_of response_of blocking_of counts_for finished_jobs
    measures_of
measures_of_a = refl

-- The rows keep FMLP+'s rules, since requests of one issue tick may be served in either order.
pub a_keeps_fmlp : KeepsBefore (shared_rule fmlp_plus) trace_a 5
unfolding phase_of phase_from executed runs_in is_pending is_next is_active is_requester issue_tick_of is_active_local
    is_ready_holder is_ready fmlp_plus
a_keeps_fmlp = keeps_from (shared_rule fmlp_plus) trace_a (passes_shared fmlp_plus trace_a) (shared_from fmlp_plus trace_a) 5 refl

pub chosen_keeps_fmlp : KeepsBefore (shared_rule fmlp_plus) trace_chosen 5
unfolding phase_of phase_from executed runs_in is_pending is_next is_active is_requester issue_tick_of is_active_local
    is_ready_holder is_ready fmlp_plus
chosen_keeps_fmlp = keeps_from (shared_rule fmlp_plus) trace_chosen (passes_shared fmlp_plus trace_chosen)
    (shared_from fmlp_plus trace_chosen) 5 refl

-- Its rows are the chosen ones, under both protocols. The row at tick 1 above, which grants to the lower task, isn't.
pub chosen_by_fmlp : (t : ℕ) → t < 5 → IsSharedChoice fmlp_plus trace_chosen t
unfolding phase_of phase_from executed runs_in is_pending is_next is_active is_requester issue_tick_of is_active_local
    is_ready_holder is_ready fmlp_plus
chosen_by_fmlp t l = choice_from fmlp_plus trace_chosen t (all_below-each 5 (passes_choice fmlp_plus trace_chosen) refl t l)

pub chosen_by_mpcp : (t : ℕ) → t < 5 → IsSharedChoice mpcp trace_chosen t
unfolding phase_of phase_from executed runs_in is_pending is_next is_active is_requester issue_tick_of is_active_local
    is_ready_holder is_ready mpcp
chosen_by_mpcp t l = choice_from mpcp trace_chosen t (all_below-each 5 (passes_choice mpcp trace_chosen) refl t l)

pub not_chosen : IsSharedChoice fmlp_plus trace_a 1 → ⊥
unfolding phase_of phase_from executed runs_in is_pending is_next is_active is_requester issue_tick_of is_active_local
    is_ready_holder is_ready fmlp_plus
not_chosen chosen = let higher : 1 ≤ 0 = chosen.grants 0 1 refl (λ e. cc) 0 (omega arith) refl refl in omega arith

pub measures_of_chosen : measures_of is_shared_interference trace_chosen 5 0 ∷ measures_of is_shared_interference trace_chosen 5 1 ∷ []
    ≡ record { finished = 1; response = Some 3; blocking = 0 } ∷ record { finished = 1; response = Some 5; blocking = 1 } ∷ []
unfolding phase_of phase_from executed runs_in is_pending is_next is_active is_delayed runs_higher
    is_shared_interference is_blocked has_finished finish_of response_of blocking_of counts_for finished_jobs
    measures_of
measures_of_chosen = refl

-- A job that is released past the last row doesn't count. A job that was released at tick 2 and never runs is blocked at all ticks from
-- then on, and has no response.
pub measures_of_late : measures_of is_shared_interference trace_late 5 0 ∷ measures_of is_shared_interference trace_late 5 1 ∷ []
    ≡ record { finished = 0; response = None; blocking = 0 } ∷ record { finished = 0; response = None; blocking = 3 } ∷ []
unfolding phase_of phase_from executed runs_in is_pending is_next is_active is_delayed runs_higher
    is_shared_interference is_blocked has_finished finish_of response_of blocking_of counts_for finished_jobs
    measures_of
measures_of_late = refl

-- Under MPCP the grant at tick 1 is to a lower task, though a higher one requests the resource.
pub a_breaks_mpcp : IsFirstUnlawful (shared_rule mpcp) trace_a 5 1 rule.Grant
unfolding phase_of phase_from executed runs_in is_pending is_next is_active is_requester issue_tick_of is_active_local
    is_ready_holder is_ready mpcp
a_breaks_mpcp = first_from (shared_rule mpcp) trace_a (passes_shared mpcp trace_a) (shared_from mpcp trace_a) 5 1
    rule.Grant (omega arith) refl refl
    (λ kept. let first : 1 ≤ 0 = kept.first 0 1 refl (λ e. cc) 0 (omega arith) refl in omega arith)

-- The broken rows, each by the rule that it breaks first. A job in the other's column:
pub run_broken : IsFirstUnlawful (shared_rule fmlp_plus) trace_run 1 0 rule.Run
unfolding phase_of phase_from executed runs_in is_pending is_next is_active is_requester issue_tick_of is_active_local
    is_ready_holder is_ready fmlp_plus
run_broken = first_from (shared_rule fmlp_plus) trace_run (passes_shared fmlp_plus trace_run)
    (shared_from fmlp_plus trace_run) 1 0 rule.Run (omega arith) refl refl
    (λ kept. let column : 1 ≡ 2 = kept.column 1 1 refl in omega arith)

-- a job in two columns:
pub twice_broken : IsFirstUnlawful (shared_rule fmlp_plus) trace_twice 1 0 rule.Run
unfolding phase_of phase_from executed runs_in is_pending is_next is_active is_requester issue_tick_of is_active_local
    is_ready_holder is_ready fmlp_plus
twice_broken = first_from (shared_rule fmlp_plus) trace_twice (passes_shared fmlp_plus trace_twice)
    (shared_from fmlp_plus trace_twice) 1 0 rule.Run (omega arith) refl refl
    (λ kept. let column : 2 ≡ 1 = kept.column 2 0 refl in omega arith)

-- a processor that runs nothing though a job is ready:
pub idle_broken : IsFirstUnlawful (shared_rule fmlp_plus) trace_idle 1 0 rule.Idle
unfolding phase_of phase_from executed runs_in is_pending is_next is_active is_requester issue_tick_of is_active_local
    is_ready_holder is_ready fmlp_plus
idle_broken = first_from (shared_rule fmlp_plus) trace_idle (passes_shared fmlp_plus trace_idle)
    (shared_from fmlp_plus trace_idle) 1 0 rule.Idle (omega arith) refl refl
    (λ kept. let idle : true ≡ false = kept 1 refl 0 (omega arith) refl in cc)

-- a holder that is dropped within its request:
pub keep_broken : IsFirstUnlawful (shared_rule fmlp_plus) trace_keep 3 2 rule.Keep
unfolding phase_of phase_from executed runs_in is_pending is_next is_active is_requester issue_tick_of is_active_local
    is_ready_holder is_ready fmlp_plus
keep_broken = first_from (shared_rule fmlp_plus) trace_keep (passes_shared fmlp_plus trace_keep)
    (shared_from fmlp_plus trace_keep) 3 2 rule.Keep (omega arith) refl refl
    (λ kept. let holder : Some 0 ≡ Some 1 = kept 0 1 refl refl in cc)

-- a holder whose request has ended, in a run whose first rows are lawful:
pub grant_broken : IsFirstUnlawful (shared_rule fmlp_plus) trace_grant 4 3 rule.Grant
unfolding phase_of phase_from executed runs_in is_pending is_next is_active is_requester issue_tick_of is_active_local
    is_ready_holder is_ready fmlp_plus
grant_broken = first_from (shared_rule fmlp_plus) trace_grant (passes_shared fmlp_plus trace_grant)
    (shared_from fmlp_plus trace_grant) 4 3 rule.Grant (omega arith) refl refl
    (λ kept. let asks : false ≡ true = kept.requests 0 1 refl in cc)

-- and a Local job that runs before a higher one of its processor.
pub priority_broken : IsFirstUnlawful (shared_rule fmlp_plus) trace_priority 1 0 rule.Priority
unfolding phase_of phase_from executed runs_in is_pending is_next is_active is_requester issue_tick_of is_active_local
    is_ready_holder is_ready fmlp_plus
priority_broken = first_from (shared_rule fmlp_plus) trace_priority (passes_shared fmlp_plus trace_priority)
    (shared_from fmlp_plus trace_priority) 1 0 rule.Priority (omega arith) refl refl
    (λ kept. let higher : 1 ≤ 0 = kept.locals 1 1 refl (λ i l p. none i l) 0 (omega arith) refl refl in omega arith) where
      none : (i : ℕ) → i < 2 → is_ready_holder trace_priority 0 i ≡ false
      none zero l = refl
      none (suc zero) l = refl
      none (suc (suc i)) l = absurd (omega arith)

-- Two ready holders on one processor, at tick 2. Task 2's resource has the higher ceiling of all users, and task 3's that of the users on
-- other processors. And task 3's request was issued earlier. So both protocols run task 3's job, and neither runs task 2's.
pub boost_keeps_mpcp : KeepsBefore (shared_rule mpcp) (trace_boost 2) 3
unfolding phase_of phase_from executed runs_in is_pending is_next is_active is_requester issue_tick_of is_active_local
    is_ready_holder is_ready mpcp
boost_keeps_mpcp = keeps_from (shared_rule mpcp) (trace_boost 2) (passes_shared mpcp (trace_boost 2))
    (shared_from mpcp (trace_boost 2)) 3 refl

pub boost_keeps_fmlp : KeepsBefore (shared_rule fmlp_plus) (trace_boost 2) 3
unfolding phase_of phase_from executed runs_in is_pending is_next is_active is_requester issue_tick_of is_active_local
    is_ready_holder is_ready fmlp_plus
boost_keeps_fmlp = keeps_from (shared_rule fmlp_plus) (trace_boost 2) (passes_shared fmlp_plus (trace_boost 2))
    (shared_from fmlp_plus (trace_boost 2)) 3 refl

pub ceilings_differ : ceiling_of set_boost 0 ∷ ceiling_of set_boost 1 ∷ remote_ceiling_of set_boost 0 1
    ∷ remote_ceiling_of set_boost 1 1 ∷ [] ≡ Some 0 ∷ Some 1 ∷ Some 4 ∷ Some 1 ∷ []
ceilings_differ = refl

pub plain_ceiling_broken : IsFirstUnlawful (shared_rule mpcp) (trace_boost 1) 3 2 rule.Priority
unfolding phase_of phase_from executed runs_in is_pending is_next is_active is_requester issue_tick_of is_active_local
    is_ready_holder is_ready mpcp
plain_ceiling_broken = first_from (shared_rule mpcp) (trace_boost 1) (passes_shared mpcp (trace_boost 1))
    (shared_from mpcp (trace_boost 1)) 3 2 rule.Priority (omega arith) refl refl
    (λ kept. let run : 4 ≤ 1 = (kept.holders 1 1 refl 2 (omega arith) refl refl).1 in omega arith)

pub task_order_broken : IsFirstUnlawful (shared_rule fmlp_plus) (trace_boost 1) 3 2 rule.Priority
unfolding phase_of phase_from executed runs_in is_pending is_next is_active is_requester issue_tick_of is_active_local
    is_ready_holder is_ready fmlp_plus
task_order_broken = first_from (shared_rule fmlp_plus) (trace_boost 1) (passes_shared fmlp_plus (trace_boost 1))
    (shared_from fmlp_plus (trace_boost 1)) 3 2 rule.Priority (omega arith) refl refl
    (λ kept. let run : 2 ≤ 1 = (kept.holders 1 1 refl 2 (omega arith) refl refl).1 in omega arith)
