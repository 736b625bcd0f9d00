-- A worked schedule: two resources of one home, of which the second is granted while a request of the first runs on there.
use Rattle.std.proofs.Common.{◌≡◌, ℕ, Bool, true, false, [], ◌∷◌, refl, arith, Some, None}
use Rattle.schedule_model.specs.RowDef.{Trace, trace_in, runs_in}
use Rattle.schedule_model.specs.Phase.{phase_from, executed, phase_of}
use Rattle.schedule_model.specs.Activity.{is_pending, is_next, is_active, is_requester, issue_tick_of, is_active_local}
use Rattle.schedule_model.specs.DpcpRules.{has_request_at, has_requests, holds_at, is_kept, waits_at, is_first_waiting}
use Rattle.schedule_model.specs.DpcpRules.{is_barred, is_granted}
use Rattle.schedule_model.specs.Protocols.{dpcp_rule}
use Rattle.schedule_model.specs.Ranks.{fmlp_plus}
use Rattle.schedule_model.specs.Keeping.{KeepsBefore, IsFirstUnlawful}
use Rattle.schedule_model.specs.BlockedTicks.{is_delayed, runs_higher_local, is_dpcp_interference, is_blocked}
use Rattle.schedule_model.specs.Measures.{has_finished, finish_of, response_of, blocking_of, counts_for, finished_jobs, measures_of}
use Rattle.schedule_model.specs.declared.rule.Rule.{Rule}
use Rattle.schedule_model.specs.declared.rule.Rule.TheVariants as rule
use Rattle.schedule_model.proofs.RuleTests.{passes_keep, keep_from, passes_grant, grant_from}
use Rattle.schedule_model.proofs.DpcpTests.{passes_run, run_from, passes_idle, idle_from, passes_priority, priority_from}
use Rattle.schedule_model.proofs.DpcpTests.{passes_dpcp, dpcp_from}
use Rattle.schedule_model.proofs.KeepingTests.{keeps_from, first_from}
use Rattle.schedule_model.proofs.WorkedFiles.{jobs_home, run}
use Rattle.dflp_laws.specs.Rules.{dflp_rule}

-- The five rules as tests that compute: where the test passes, the rule is kept.
abbrev passes_dflp : Trace → ℕ → Rule → Bool
passes_dflp w t rule.Run = passes_run w t
passes_dflp w t rule.Keep = passes_keep w t
passes_dflp w t rule.Grant = passes_grant fmlp_plus w t
passes_dflp w t rule.Idle = passes_idle w t
passes_dflp w t rule.Priority = passes_priority issue_tick_of w t

dflp_from : (w : Trace) (t : ℕ) (r : Rule) → passes_dflp w t r ≡ true → dflp_rule r w t
dflp_from w t rule.Run h = run_from w t h
dflp_from w t rule.Keep h = keep_from w t h
dflp_from w t rule.Grant h = grant_from fmlp_plus w t h
dflp_from w t rule.Idle h = idle_from w t h
dflp_from w t rule.Priority h = priority_from issue_tick_of w t h

-- At tick 2 the first job holds its resource, and the second's request of the other one runs on, since it was issued earlier.
abbrev trace_ours : Trace
trace_ours = trace_in jobs_home (
    run 1 (None ∷ Some 1 ∷ None ∷ []) (None ∷ None ∷ [])
    ∷ run 1 (Some 0 ∷ None ∷ Some 1 ∷ []) (Some 1 ∷ None ∷ [])
    ∷ run 1 (None ∷ None ∷ Some 1 ∷ []) (Some 1 ∷ Some 0 ∷ [])
    ∷ run 1 (None ∷ Some 1 ∷ Some 0 ∷ []) (None ∷ Some 0 ∷ [])
    ∷ run 1 (Some 0 ∷ None ∷ None ∷ []) (None ∷ None ∷ [])
    ∷ [])

-- The rows keep the rules.
pub keeps_dflp : KeepsBefore dflp_rule trace_ours 5
unfolding phase_of phase_from executed runs_in is_pending is_next is_active is_requester issue_tick_of is_active_local
    has_request_at has_requests holds_at fmlp_plus
keeps_dflp = keeps_from dflp_rule trace_ours (passes_dflp trace_ours) (dflp_from trace_ours) 5 refl

-- DPCP bars the grant at tick 2: the task is no higher than the ceiling of the resource that is held there.
pub breaks_dpcp : IsFirstUnlawful dpcp_rule trace_ours 5 2 rule.Grant
unfolding phase_of phase_from executed runs_in is_pending is_next is_active is_requester is_active_local has_request_at
    has_requests holds_at is_kept waits_at is_first_waiting is_barred is_granted
breaks_dpcp = first_from dpcp_rule trace_ours (passes_dpcp trace_ours) (dpcp_from trace_ours) 5 2 rule.Grant (omega arith) refl refl
    (λ kept. let granted : false ≡ true = kept.new 1 0 refl (λ e. cc) in cc)

-- The first job is blocked at that tick.
pub measures_of_ours : measures_of is_dpcp_interference trace_ours 5 0 ∷ measures_of is_dpcp_interference trace_ours 5 1 ∷ []
    ≡ record { finished = 1; response = Some 4; blocking = 1 } ∷ record { finished = 1; response = Some 4; blocking = 0 } ∷ []
unfolding phase_of phase_from executed runs_in is_pending is_next is_active is_delayed runs_higher_local
    is_dpcp_interference is_blocked has_finished finish_of response_of blocking_of counts_for finished_jobs measures_of
measures_of_ours = refl
