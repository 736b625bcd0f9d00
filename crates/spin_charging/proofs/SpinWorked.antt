-- The worked schedule, charged, and the programs of its tasks at the bounds that an analysis finds.
use Rattle.std.proofs.Common.{◌≡◌, [], ◌∷◌, refl, None}
use Rattle.schedule_model.specs.RowDef.{runs_in}
use Rattle.schedule_model.specs.Phase.{phase_from, executed, phase_of}
use Rattle.schedule_model.specs.Activity.{is_pending, is_next, is_active, is_active_job_of, active_job_of, is_active_local}
use Rattle.schedule_model.specs.Activity.{is_ready_holder, is_ready}
use Rattle.schedule_model.specs.BlockedTicks.{is_delayed, runs_higher, is_shared_interference, is_blocked}
use Rattle.blocking_columns.specs.declared.columns.Class.TheVariants.{Direct, Indirect, Preemption}
use Rattle.charge_laws.proofs.ChargeExamples.{by}
use Rattle.spin_rules.specs.SpinRules.{is_in_request, spins}
use Rattle.spin_rules.proofs.SpinExamples.{set_spin, trace_spin}
use Rattle.spin_charging.specs.SpinCharges.{spinner_on, spin_charge}
use Rattle.spin_charging.specs.SpinPrograms.{spin_program}

-- The second job is blocked directly while it spins.
pub spins_directly : spin_charge trace_spin 0 1 ∷ spin_charge trace_spin 1 1 ∷ spin_charge trace_spin 3 1 ∷ spin_charge trace_spin 4 1 ∷ []
    ≡ None ∷ by 2 Direct ∷ by 2 Direct ∷ None ∷ []
unfolding phase_of phase_from executed runs_in is_pending is_next is_active is_active_job_of active_job_of is_active_local
    is_ready_holder is_ready is_delayed runs_higher is_shared_interference is_blocked is_in_request spins spinner_on spin_charge
spins_directly = refl

-- The first job is blocked indirectly while the second spins, and by preemption while that one is in its request.
pub blocked_beside : spin_charge trace_spin 2 0 ∷ spin_charge trace_spin 3 0 ∷ spin_charge trace_spin 4 0 ∷ spin_charge trace_spin 5 0
    ∷ spin_charge trace_spin 6 0 ∷ []
    ≡ by 2 Indirect ∷ by 2 Indirect ∷ by 1 Preemption ∷ by 1 Preemption ∷ None ∷ []
unfolding phase_of phase_from executed runs_in is_pending is_next is_active is_active_job_of active_job_of is_active_local
    is_ready_holder is_ready is_delayed runs_higher is_shared_interference is_blocked is_in_request spins spinner_on spin_charge
blocked_beside = refl

-- The first task's program: a request of the second by preemption, and one of the third indirectly. Its rows are those of requests, of
-- time, of lower requests, and of spinning: the lower task may spin once.
pub program_of_first : spin_program set_spin 0 (7 ∷ 11 ∷ 7 ∷ [])
    ≡ record {
      costs = 2 ∷ 3 ∷ [];
      rows = (1 ∷ 0 ∷ []) ∷ (0 ∷ 1 ∷ []) ∷ (2 ∷ 0 ∷ []) ∷ (0 ∷ 3 ∷ []) ∷ (1 ∷ 0 ∷ []) ∷ (0 ∷ 1 ∷ []) ∷ [];
      limits = 1 ∷ 1 ∷ 4 ∷ 5 ∷ 1 ∷ 1 ∷ [];
    }
program_of_first = refl

-- The second task's: a request of the third, directly. Its rows are those of requests, of time, of spinning and of own spinning.
pub program_of_second : spin_program set_spin 1 (7 ∷ 11 ∷ 7 ∷ [])
    ≡ record { costs = 3 ∷ []; rows = (1 ∷ []) ∷ (3 ∷ []) ∷ (1 ∷ []) ∷ (1 ∷ []) ∷ []; limits = 1 ∷ 5 ∷ 1 ∷ 1 ∷ [] }
program_of_second = refl
