-- A worked schedule: two tasks on a processor, one on another, and a resource that the second and the third use.
use Rattle.std.proofs.Common.{◌≡◌, true, false, [], ◌∷◌, refl, arith, Some, None}
use Rattle.sporadic_model.specs.SetDef.{SetDef}
use Rattle.schedule_model.specs.JobDef.{JobsDef}
use Rattle.schedule_model.specs.RowDef.{Trace, trace_in, runs_in}
use Rattle.schedule_model.specs.Phase.{phase_from, executed, phase_of}
use Rattle.schedule_model.specs.Activity.{is_pending, is_next, is_active, is_requester, issue_tick_of, is_active_local}
use Rattle.schedule_model.specs.Activity.{is_ready_holder, is_ready}
use Rattle.schedule_model.specs.Ranks.{fmlp_plus}
use Rattle.schedule_model.specs.Protocols.{shared_rule}
use Rattle.schedule_model.specs.Keeping.{KeepsBefore, IsFirstUnlawful}
use Rattle.schedule_model.specs.BlockedTicks.{is_delayed, runs_higher, is_shared_interference, is_blocked}
use Rattle.schedule_model.specs.Measures.{has_finished, finish_of, response_of, blocking_of, counts_for, finished_jobs, measures_of}
use Rattle.schedule_model.specs.declared.rule.Rule.TheVariants as rule
use Rattle.schedule_model.proofs.RuleTests.{passes_shared, shared_from}
use Rattle.schedule_model.proofs.KeepingTests.{keeps_from, first_from}
use Rattle.schedule_model.proofs.WorkedFiles.{task, once, resource, then_request, local_only, job, run}
use Rattle.spin_rules.specs.SpinRules.{is_in_request, spins, has_spinner, spin_rule}
use Rattle.spin_rules.proofs.SpinTests.{passes_spin, spin_from}

abbrev pub set_spin : SetDef
set_spin = record {
  processors = 2;
  resources = resource 113 None ∷ [];
  tasks = task 49 1 10 2 [] ∷ task 50 1 20 4 (once 113 2 ∷ []) ∷ task 51 2 20 5 (once 113 3 ∷ []) ∷ [];
}

-- The first job is released at tick 2. The others begin with a local tick each, and request the resource then.
abbrev pub jobs_spin : JobsDef
jobs_spin = record {
  set = set_spin;
  jobs = job 0 2 (local_only 2 ∷ []) ∷ job 1 0 (then_request 1 0 2 ∷ local_only 1 ∷ []) ∷ job 2 0 (then_request 1 0 3 ∷ local_only 1 ∷ []) ∷ [];
}

-- The third holds at ticks 1 to 3, while the second spins; then the second holds, and isn't preempted by the first.
abbrev pub trace_spin : Trace
trace_spin = trace_in jobs_spin
    (run 1 (Some 1 ∷ Some 2 ∷ []) (None ∷ [])
    ∷ run 3 (None ∷ Some 2 ∷ []) (Some 2 ∷ [])
    ∷ run 1 (Some 1 ∷ Some 2 ∷ []) (Some 1 ∷ [])
    ∷ run 1 (Some 1 ∷ None ∷ []) (Some 1 ∷ [])
    ∷ run 2 (Some 0 ∷ None ∷ []) (None ∷ [])
    ∷ run 1 (Some 1 ∷ None ∷ []) (None ∷ [])
    ∷ [])

-- The second job spins at ticks 1 to 3, and no other job ever does.
pub spins_at_three_ticks :
    spins trace_spin 0 1 ∷ spins trace_spin 1 1 ∷ spins trace_spin 2 1 ∷ spins trace_spin 3 1 ∷ spins trace_spin 4 1 ∷ spins trace_spin 1 2 ∷ []
    ≡ false ∷ true ∷ true ∷ true ∷ false ∷ false ∷ []
unfolding phase_of phase_from executed runs_in is_pending is_next is_active is_in_request spins
spins_at_three_ticks = refl

pub has_spinner_there : has_spinner trace_spin 2 1 ∷ has_spinner trace_spin 2 2 ∷ has_spinner trace_spin 4 1 ∷ [] ≡ true ∷ false ∷ false ∷ []
unfolding phase_of phase_from executed runs_in is_pending is_next is_active is_in_request spins has_spinner
has_spinner_there = refl

-- The rows keep the rules of spin locks.
pub keeps_spin : KeepsBefore spin_rule trace_spin 9
unfolding phase_of phase_from executed runs_in is_pending is_next is_active is_requester issue_tick_of is_active_local
    is_ready_holder is_ready is_in_request spins has_spinner fmlp_plus
keeps_spin = keeps_from spin_rule trace_spin (passes_spin trace_spin) (spin_from trace_spin) 9 refl

-- The first is blocked for four ticks, the second for the three at which it spins, the third never.
pub measures_of_spin : measures_of is_shared_interference trace_spin 9 0 ∷ measures_of is_shared_interference trace_spin 9 1
    ∷ measures_of is_shared_interference trace_spin 9 2 ∷ []
    ≡ record { finished = 1; response = Some 6; blocking = 4 } ∷ record { finished = 1; response = Some 9; blocking = 3 }
    ∷ record { finished = 1; response = Some 5; blocking = 0 } ∷ []
unfolding phase_of phase_from executed runs_in is_pending is_next is_active is_delayed runs_higher
    is_shared_interference is_blocked has_finished finish_of response_of blocking_of counts_for finished_jobs
    measures_of
measures_of_spin = refl

-- Under FMLP+ the row at tick 2 breaks Idle: the first job is ready then, and its processor runs nothing.
pub breaks_fmlp : IsFirstUnlawful (shared_rule fmlp_plus) trace_spin 9 2 rule.Idle
unfolding phase_of phase_from executed runs_in is_pending is_next is_active is_requester issue_tick_of is_active_local
    is_ready_holder is_ready fmlp_plus
breaks_fmlp = first_from (shared_rule fmlp_plus) trace_spin (passes_shared fmlp_plus trace_spin) (shared_from fmlp_plus trace_spin) 9 2
    rule.Idle (omega arith) refl refl (λ kept. let idle : true ≡ false = kept 1 refl 0 (omega arith) refl in cc)
