-- The worked schedules under DPCP.
use Rattle.std.proofs.Common.{◌≡◌, true, false, [], ◌∷◌, refl, arith, Some, None}
use Rattle.schedule_model.specs.RowDef.{runs_in}
use Rattle.schedule_model.specs.Phase.{phase_from, executed, phase_of}
use Rattle.schedule_model.specs.Activity.{is_pending, is_next, is_active, is_requester, is_active_local}
use Rattle.schedule_model.specs.DpcpRules.{has_request_at, has_requests, holds_at, is_kept, waits_at, is_first_waiting}
use Rattle.schedule_model.specs.DpcpRules.{is_barred, is_granted}
use Rattle.schedule_model.specs.Protocols.{dpcp_rule}
use Rattle.schedule_model.specs.Keeping.{KeepsBefore, IsFirstUnlawful}
use Rattle.schedule_model.specs.BlockedTicks.{is_delayed, runs_higher, runs_higher_local, is_shared_interference}
use Rattle.schedule_model.specs.BlockedTicks.{is_dpcp_interference, is_blocked}
use Rattle.schedule_model.specs.Measures.{has_finished, finish_of, response_of, blocking_of, counts_for, finished_jobs, measures_of}
use Rattle.schedule_model.specs.declared.rule.Rule.TheVariants as rule
use Rattle.schedule_model.proofs.DpcpTests.{passes_dpcp, dpcp_from}
use Rattle.schedule_model.proofs.KeepingTests.{keeps_from, first_from}
use Rattle.schedule_model.proofs.WorkedFiles.{trace_home, trace_barred, trace_one, trace_unrun}

-- At tick 2 the first job waits for its resource while the second's request of another runs at their home.
pub home_keeps_dpcp : KeepsBefore dpcp_rule trace_home 5
unfolding phase_of phase_from executed runs_in is_pending is_next is_active is_requester is_active_local has_request_at
    has_requests holds_at is_kept waits_at is_first_waiting is_barred is_granted
home_keeps_dpcp = keeps_from dpcp_rule trace_home (passes_dpcp trace_home) (dpcp_from trace_home) 5 refl

pub measures_of_home : measures_of is_dpcp_interference trace_home 5 0 ∷ measures_of is_dpcp_interference trace_home 5 1 ∷ []
    ≡ record { finished = 1; response = Some 4; blocking = 1 } ∷ record { finished = 1; response = Some 4; blocking = 0 } ∷ []
unfolding phase_of phase_from executed runs_in is_pending is_next is_active is_delayed runs_higher_local
    is_dpcp_interference is_blocked has_finished finish_of response_of blocking_of counts_for finished_jobs measures_of
measures_of_home = refl

pub blocked_at_two : is_blocked is_dpcp_interference trace_home 2 0 ≡ true
unfolding phase_of phase_from executed runs_in is_pending is_next is_active is_delayed runs_higher_local is_dpcp_interference is_blocked
blocked_at_two = refl

-- A task that equals the ceiling of a kept resource is not granted: it isn't strictly higher.
pub barred_broken : IsFirstUnlawful dpcp_rule trace_barred 5 2 rule.Grant
unfolding phase_of phase_from executed runs_in is_pending is_next is_active is_requester is_active_local has_request_at
    has_requests holds_at is_kept waits_at is_first_waiting is_barred is_granted
barred_broken = first_from dpcp_rule trace_barred (passes_dpcp trace_barred) (dpcp_from trace_barred) 5 2 rule.Grant (omega arith) refl refl
    (λ kept. let granted : false ≡ true = kept.new 1 0 refl (λ e. cc) in cc)

-- One processor, which is also the home. At the first tick the higher job runs as Local, which is interference for the lower one. At the
-- second its request runs, and the lower job is blocked. Under shared memory both would be interference.
pub one_keeps_dpcp : KeepsBefore dpcp_rule trace_one 3
unfolding phase_of phase_from executed runs_in is_pending is_next is_active is_requester is_active_local has_request_at
    has_requests holds_at is_kept waits_at is_first_waiting is_barred is_granted
one_keeps_dpcp = keeps_from dpcp_rule trace_one (passes_dpcp trace_one) (dpcp_from trace_one) 3 refl

pub request_blocks : is_dpcp_interference trace_one 0 1 ∷ is_blocked is_dpcp_interference trace_one 0 1
    ∷ is_dpcp_interference trace_one 1 1 ∷ is_blocked is_dpcp_interference trace_one 1 1
    ∷ is_shared_interference trace_one 1 1 ∷ []
    ≡ true ∷ false ∷ false ∷ true ∷ true ∷ []
unfolding phase_of phase_from executed runs_in is_pending is_next is_active is_delayed runs_higher runs_higher_local
    is_shared_interference is_dpcp_interference is_blocked
request_blocks = refl

-- If nothing has run by tick 10, the second job of the lower task is pending and not active, since the one before it isn't finished. Once
-- that one has run, it is active.
pub pending_not_active : is_pending trace_unrun 10 2 ∷ is_active trace_unrun 10 2 ∷ is_active trace_one 10 2 ∷ [] ≡ true ∷ false ∷ true ∷ []
unfolding phase_of phase_from executed runs_in is_pending is_next is_active
pending_not_active = refl

-- A job whose release is past the last row doesn't count: it isn't finished, and no tick blocks it.
pub past_the_rows : has_finished trace_one 3 2 ≡ false
unfolding phase_of phase_from executed runs_in has_finished
past_the_rows = refl

pub unblocked_past : blocking_of is_dpcp_interference trace_one 3 2 ≡ 0
unfolding phase_of phase_from executed runs_in is_pending is_next is_active is_delayed runs_higher_local
    is_dpcp_interference is_blocked blocking_of
unblocked_past = refl

pub measures_of_no_rows : measures_of is_shared_interference trace_unrun 0 0 ≡ record { finished = 0; response = None; blocking = 0 }
unfolding phase_of phase_from executed runs_in is_pending is_next is_active is_delayed runs_higher
    is_shared_interference is_blocked has_finished finish_of response_of blocking_of counts_for finished_jobs
    measures_of
measures_of_no_rows = refl
