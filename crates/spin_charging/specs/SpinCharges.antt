-- To which request is a blocked tick charged under spin locks? If the job's processor runs a request of a lower task, to that one. If it
-- runs nothing, to the request for which a job there spins.
use Rattle.std.specs.Prelude.{ℕ, ◌==◌, ◌&&◌, Bool, false, Option, None, Some, if◌then◌else◌, length}
use Rattle.std.specs.Option.{option_map_or, option_and_then}
use Rattle.number_laws.specs.Tests.{found_below}
use Rattle.sporadic_model.specs.SetDef.{task_at}
use Rattle.schedule_model.specs.RowDef.{Trace, running_on, holder_in}
use Rattle.schedule_model.specs.Phase.{Phase, phase_of}
use Rattle.schedule_model.specs.Phase.Phase.{Asking}
use Rattle.schedule_model.specs.Activity.{processor_of, active_job_of}
use Rattle.schedule_model.specs.BlockedTicks.{is_shared_interference, is_blocked}
use Rattle.blocking_columns.specs.declared.columns.Class.TheVariants.{Direct, Indirect, Preemption}
use Rattle.charge_laws.specs.Charges.{Charge, charge_to}
use Rattle.spin_rules.specs.SpinRules.{spins}

-- Is x a task of processor k whose active job spins?
abbrev pub is_spinning_task : Trace → ℕ → ℕ → ℕ → Bool
is_spinning_task w t k x = ((task_at w.set x).processor == k) && option_map_or (spins w t) (active_job_of w t x) false

-- Which job spins on processor k? If several do, it is the one of the highest task. In rows that keep the rules at most one does.
unfoldable pub spinner_on : Trace → ℕ → ℕ → Option ℕ
spinner_on w t k = option_and_then (active_job_of w t) (found_below (length w.set.tasks) (is_spinning_task w t k))

-- The charge for job j while job s spins in this phase: the holder of the resource that s waits for. It is direct if s is j itself.
abbrev pub charge_by_spinner : Trace → ℕ → ℕ → ℕ → Phase → Option Charge
charge_by_spinner w t j s (Asking n q) = charge_to (if s == j then Direct else Indirect) (holder_in (w.row t) q)
charge_by_spinner w t j s _ = None

-- The charge for job j if its processor runs this job, or nothing.
abbrev pub charge_beside : Trace → ℕ → ℕ → Option ℕ → Option Charge
charge_beside w t j (Some r) = Some (record { job = r; class = Preemption })
charge_beside w t j None = option_and_then (λ s. charge_by_spinner w t j s (phase_of w t s)) (spinner_on w t (processor_of w j))

-- To what is tick t charged for job j? If j isn't blocked, to nothing.
unfoldable pub spin_charge : Trace → ℕ → ℕ → Option Charge
spin_charge w t j =
    if is_blocked is_shared_interference w t j then charge_beside w t j (running_on (w.row t) (processor_of w j)) else None
