-- Worked schedules, and to what their ticks are charged.
use Rattle.std.proofs.Common.{◌≡◌, ℕ, true, List, [], ◌∷◌, refl, Option, Some, None}
use Rattle.schedule_model.specs.JobDef.{JobsDef}
use Rattle.sporadic_model.specs.SetDef.{SetDef}
use Rattle.schedule_model.specs.RowDef.{RunDef, Trace, trace_in, runs_in}
use Rattle.schedule_model.specs.Phase.{phase_from, executed, phase_of}
use Rattle.schedule_model.specs.Activity.{is_pending, is_next, is_active, is_requester, issue_tick_of, is_active_local}
use Rattle.schedule_model.specs.Activity.{is_ready_holder, is_ready}
use Rattle.schedule_model.specs.Ranks.{fmlp_plus}
use Rattle.schedule_model.specs.DpcpRules.{has_request_at, has_requests, holds_at, is_kept, waits_at, is_first_waiting}
use Rattle.schedule_model.specs.DpcpRules.{is_barred, is_granted}
use Rattle.schedule_model.specs.Protocols.{shared_rule, dpcp_rule}
use Rattle.schedule_model.specs.Keeping.{KeepsBefore}
use Rattle.schedule_model.specs.BlockedTicks.{is_delayed, runs_higher, runs_higher_local, is_shared_interference}
use Rattle.schedule_model.specs.BlockedTicks.{is_dpcp_interference, is_blocked, is_interferer}
use Rattle.schedule_model.proofs.RuleTests.{passes_shared, shared_from}
use Rattle.schedule_model.proofs.DpcpTests.{passes_dpcp, dpcp_from}
use Rattle.schedule_model.proofs.KeepingTests.{keeps_from}
use Rattle.schedule_model.proofs.WorkedFiles.{task, once, resource, then_request, local_only, job, run, trace_a}
use Rattle.schedule_model.proofs.WorkedFiles.{set_home, trace_home, trace_one}
use Rattle.blocking_columns.specs.declared.columns.Class.{Class}
use Rattle.blocking_columns.specs.declared.columns.Class.TheVariants.{Direct, Indirect, Preemption}
use Rattle.blocking_columns.specs.ColumnDef.{ColumnDef}
use Rattle.charge_laws.specs.Charges.{Charge, shared_charge, dpcp_charge}
use Rattle.charge_laws.specs.Interferers.{interferes_with_some, is_interference_of}
use Rattle.charge_laws.specs.Fractions.{ticks_in, product_of_lengths, fractions_of}

abbrev pub by : ℕ → Class → Option Charge
by j class = Some (record { job = j; class = class })

-- Two jobs on processors of their own. The first waits at ticks 1 and 2 for the resource that the second holds while it runs.
pub waits_for_runner :
    shared_charge trace_a 0 0 ∷ shared_charge trace_a 1 0 ∷ shared_charge trace_a 2 0 ∷ shared_charge trace_a 3 0
    ∷ shared_charge trace_a 1 1 ∷ []
    ≡ None ∷ by 1 Direct ∷ by 1 Direct ∷ None ∷ None ∷ []
unfolding phase_of phase_from executed runs_in is_pending is_next is_active is_active_local is_ready_holder is_ready
    is_delayed runs_higher is_shared_interference is_blocked shared_charge
waits_for_runner = refl

-- Four tasks on three processors, and two resources (named 97 and 98). The first two tasks use one, and the last two the other. The second
-- and the third are on one processor.
abbrev pub set_path : SetDef
set_path = record {
  processors = 3;
  resources = resource 97 None ∷ resource 98 None ∷ [];
  tasks =
      task 49 1 20 2 (once 97 1 ∷ [])
      ∷ task 50 2 20 2 (once 97 1 ∷ [])
      ∷ task 51 2 20 3 (once 98 2 ∷ [])
      ∷ task 52 3 20 2 (once 98 1 ∷ [])
      ∷ [];
}

abbrev pub jobs_path : JobsDef
jobs_path = record {
  set = set_path;
  jobs =
      job 0 2 (then_request 1 0 1 ∷ [])
      ∷ job 1 1 (then_request 1 0 1 ∷ [])
      ∷ job 2 0 (then_request 1 1 2 ∷ [])
      ∷ job 3 0 (then_request 1 1 1 ∷ [])
      ∷ [];
}

abbrev pub rows_path : List RunDef
rows_path =
    run 1 (None ∷ Some 2 ∷ Some 3 ∷ []) (None ∷ None ∷ [])
    ∷ run 1 (None ∷ Some 1 ∷ Some 3 ∷ []) (None ∷ Some 3 ∷ [])
    ∷ run 1 (Some 0 ∷ Some 2 ∷ None ∷ []) (Some 1 ∷ Some 2 ∷ [])
    ∷ run 1 (None ∷ Some 2 ∷ None ∷ []) (Some 1 ∷ Some 2 ∷ [])
    ∷ run 1 (None ∷ Some 1 ∷ None ∷ []) (Some 1 ∷ None ∷ [])
    ∷ run 1 (Some 0 ∷ None ∷ None ∷ []) (Some 0 ∷ None ∷ [])
    ∷ []

abbrev pub trace_path : Trace
trace_path = trace_in jobs_path rows_path

pub path_keeps_fmlp : KeepsBefore (shared_rule fmlp_plus) trace_path 6
unfolding phase_of phase_from executed runs_in is_pending is_next is_active is_requester issue_tick_of is_active_local
    is_ready_holder is_ready fmlp_plus
path_keeps_fmlp = keeps_from (shared_rule fmlp_plus) trace_path (passes_shared fmlp_plus trace_path)
    (shared_from fmlp_plus trace_path) 6 refl

-- At tick 3 the first job waits for a resource whose holder, the second, doesn't run: the third runs there, since its request was
-- issued earlier. At tick 4 the second runs.
pub waits_behind_holder :
    shared_charge trace_path 2 0 ∷ shared_charge trace_path 3 0 ∷ shared_charge trace_path 4 0 ∷ shared_charge trace_path 5 0 ∷ []
    ≡ None ∷ by 2 Indirect ∷ by 1 Direct ∷ None ∷ []
unfolding phase_of phase_from executed runs_in is_pending is_next is_active is_active_local is_ready_holder is_ready
    is_delayed runs_higher is_shared_interference is_blocked shared_charge
waits_behind_holder = refl

-- Meanwhile the second is ready, and preempted by the third, of a lower task.
pub preempted_by_holder :
    shared_charge trace_path 1 1 ∷ shared_charge trace_path 2 1 ∷ shared_charge trace_path 3 1 ∷ shared_charge trace_path 4 1 ∷ []
    ≡ None ∷ by 2 Preemption ∷ by 2 Preemption ∷ None ∷ []
unfolding phase_of phase_from executed runs_in is_pending is_next is_active is_active_local is_ready_holder is_ready
    is_delayed runs_higher is_shared_interference is_blocked shared_charge
preempted_by_holder = refl

-- At tick 1 the third waits, while the second, of a higher task, runs on its processor. That is interference, which is charged to nothing.
pub interfered_not_charged :
    is_interferer is_shared_interference trace_path 1 2 1 ∷ is_interference_of is_shared_interference trace_path 1 2 1
    ∷ interferes_with_some is_shared_interference trace_path 1 1 ∷ []
    ≡ true ∷ true ∷ true ∷ []
unfolding phase_of phase_from executed runs_in is_pending is_next is_active is_delayed runs_higher
    is_shared_interference is_interferer is_interference_of interferes_with_some
interfered_not_charged = refl

pub interference_uncharged : shared_charge trace_path 1 2 ≡ None
unfolding phase_of phase_from executed runs_in is_pending is_next is_active is_active_local is_ready_holder is_ready
    is_delayed runs_higher is_shared_interference is_blocked shared_charge
interference_uncharged = refl

-- The first job's fractions: one tick of the third's requests, which are two ticks long, and one tick of the second's, which are one tick
-- long.
abbrev pub columns_path : List ColumnDef
columns_path = record { task = 1; resource = 0; class = Direct } ∷ record { task = 2; resource = 1; class = Indirect } ∷ []

pub fractions_path :
    product_of_lengths set_path columns_path ∷ fractions_of shared_charge trace_path (λ x. 20) 6 0 columns_path 0
    ∷ fractions_of shared_charge trace_path (λ x. 20) 6 0 columns_path 1 ∷ []
    ≡ 2 ∷ 2 ∷ 1 ∷ []
unfolding phase_of phase_from executed runs_in is_pending is_next is_active is_active_local is_ready_holder is_ready
    is_delayed runs_higher is_shared_interference is_blocked shared_charge ticks_in
fractions_path = refl

-- A window that ends at tick 4 has only the first of these two ticks.
pub fractions_early :
    fractions_of shared_charge trace_path (λ x. 2) 6 0 columns_path 0
    ∷ fractions_of shared_charge trace_path (λ x. 2) 6 0 columns_path 1 ∷ [] ≡ 0 ∷ 1 ∷ []
unfolding phase_of phase_from executed runs_in is_pending is_next is_active is_active_local is_ready_holder is_ready
    is_delayed runs_higher is_shared_interference is_blocked shared_charge ticks_in
fractions_early = refl

-- Under DPCP: the first job waits at tick 2 while a request of another resource runs at the home of its own one.
pub waits_at_home :
    dpcp_charge trace_home 1 0 ∷ dpcp_charge trace_home 2 0 ∷ dpcp_charge trace_home 3 0 ∷ [] ≡ None ∷ by 1 Indirect ∷ None ∷ []
unfolding phase_of phase_from executed runs_in is_pending is_next is_active is_delayed runs_higher_local
    is_dpcp_interference is_blocked dpcp_charge
waits_at_home = refl

-- If both request one resource, it waits for that one.
abbrev pub jobs_same : JobsDef
jobs_same = record {
  set = set_home;
  jobs = job 0 1 (then_request 1 0 1 ∷ local_only 1 ∷ []) ∷ job 1 0 (then_request 1 0 2 ∷ local_only 1 ∷ []) ∷ [];
}

abbrev pub trace_same : Trace
trace_same = trace_in jobs_same (
    run 1 (None ∷ Some 1 ∷ None ∷ []) (None ∷ None ∷ [])
    ∷ run 1 (Some 0 ∷ None ∷ Some 1 ∷ []) (Some 1 ∷ None ∷ [])
    ∷ run 1 (None ∷ None ∷ Some 1 ∷ []) (Some 1 ∷ None ∷ [])
    ∷ [])

pub same_keeps_dpcp : KeepsBefore dpcp_rule trace_same 3
unfolding phase_of phase_from executed runs_in is_pending is_next is_active is_requester is_active_local has_request_at
    has_requests holds_at is_kept waits_at is_first_waiting is_barred is_granted
same_keeps_dpcp = keeps_from dpcp_rule trace_same (passes_dpcp trace_same) (dpcp_from trace_same) 3 refl

pub waits_for_same : dpcp_charge trace_same 2 0 ≡ by 1 Direct
unfolding phase_of phase_from executed runs_in is_pending is_next is_active is_delayed runs_higher_local
    is_dpcp_interference is_blocked dpcp_charge
waits_for_same = refl

-- The request of the higher job runs on its own processor, which is the home. The lower job, which is Local, is preempted.
pub preempted_at_home :
    dpcp_charge trace_one 0 1 ∷ dpcp_charge trace_one 1 1 ∷ dpcp_charge trace_one 2 1 ∷ [] ≡ None ∷ by 0 Preemption ∷ None ∷ []
unfolding phase_of phase_from executed runs_in is_pending is_next is_active is_delayed runs_higher_local
    is_dpcp_interference is_blocked dpcp_charge
preempted_at_home = refl
