-- To which request is a blocked tick charged? To one that executes at that tick. A charge names its job, and the job's phase tells the
-- request.
use Rattle.std.specs.Prelude.{◌≡◌, ℕ, true, Option, None, Some, if◌then◌else◌, option_map}
use Rattle.std.specs.Option.{option_and_then}
use Rattle.schedule_model.specs.RowDef.{Trace, running_on, holder_in, runs_in}
use Rattle.schedule_model.specs.Phase.{Phase, is_asking, phase_of}
use Rattle.schedule_model.specs.Phase.Phase.{Local, Asking, Finished}
use Rattle.schedule_model.specs.Activity.{processor_of, is_ready}
use Rattle.schedule_model.specs.BlockedTicks.{is_shared_interference, is_dpcp_interference, is_blocked}
use Rattle.schedule_model.specs.DpcpRules.{home_of}
use Rattle.blocking_columns.specs.declared.columns.Class.{Class}
use Rattle.blocking_columns.specs.declared.columns.Class.TheVariants.{Direct, Indirect, Preemption}

-- A charge: the job whose request executes, and the way in which the request blocks.
pub record Charge : Type 0 where
  pub job : ℕ
  pub class : Class

-- The charge to this job, if there is one, with this class.
abbrev pub charge_to : Class → Option ℕ → Option Charge
charge_to class named = option_map (λ y. record { job = y; class = class }) named

-- Shared memory: the charge of a job that waits for a resource that job y holds. It is y if y runs, and else the job that runs on y's
-- processor.
abbrev pub charge_by_holder : Trace → ℕ → ℕ → Option Charge
charge_by_holder w t y =
    if runs_in (w.row t) y then Some (record { job = y; class = Direct })
    else charge_to Indirect (running_on (w.row t) (processor_of w y))

-- Shared memory: the charge of a job that isn't ready, in this phase.
abbrev pub charge_of_waiting : Trace → ℕ → Phase → Option Charge
charge_of_waiting w t (Asking n q) = option_and_then (charge_by_holder w t) (holder_in (w.row t) q)
charge_of_waiting w t _ = None

-- To what is tick t charged for job j under shared memory? If j is blocked and ready, to the job that runs on j's processor. If it is
-- blocked and waits, to the holder of the resource that it waits for, or to the job that runs in the holder's place. If it isn't blocked,
-- to nothing.
unfoldable pub shared_charge : Trace → ℕ → ℕ → Option Charge
shared_charge w t j =
    if is_blocked is_shared_interference w t j
    then (if is_ready w t j
    then charge_to Preemption (running_on (w.row t) (processor_of w j))
    else charge_of_waiting w t (phase_of w t j))
    else None

-- DPCP: the class of a request that runs while a job waits for resource q. It is Direct if the request is of q.
abbrev pub class_at_home : ℕ → Phase → Class
class_at_home q p = if is_asking q p then Direct else Indirect

-- DPCP: the charge of a blocked job in this phase. If the job is Local, it is the job that runs on its processor. If it is in a request, it
-- is the job that runs on the home of the resource.
abbrev pub charge_by_phase : Trace → ℕ → ℕ → Phase → Option Charge
charge_by_phase w t j Local = charge_to Preemption (running_on (w.row t) (processor_of w j))
charge_by_phase w t j (Asking n q) =
    option_map (λ y. record { job = y; class = class_at_home q (phase_of w t y) }) (running_on (w.row t) (home_of w q))
charge_by_phase w t j Finished = None

-- What is tick t charged to for job j under DPCP?
unfoldable pub dpcp_charge : Trace → ℕ → ℕ → Option Charge
dpcp_charge w t j = if is_blocked is_dpcp_interference w t j then charge_by_phase w t j (phase_of w t j) else None

-- Does the request to which the tick is charged execute: does its job run, and is it in a request?
pub record Executes (w : Trace) (t : ℕ) (charge : Charge) : Type 0 where
  pub runs : runs_in (w.row t) charge.job ≡ true
  pub number : ℕ
  pub resource : ℕ
  pub request : phase_of w t charge.job ≡ Asking number resource
