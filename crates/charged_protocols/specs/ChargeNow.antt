-- The charge of a blocked job, from the state of a machine and the next row.
use Rattle.std.specs.Prelude.{ℕ, Option, None, Some, if◌then◌else◌, option_map}
use Rattle.std.specs.Option.{option_and_then}
use Rattle.sporadic_model.specs.Homes.{home_in}
use Rattle.schedule_model.specs.RowDef.{RowDef, is_job, running_on, holder_in}
use Rattle.schedule_model.specs.Phase.{Phase}
use Rattle.schedule_model.specs.Phase.Phase.{Local, Asking, Finished}
use Rattle.phase_machine.specs.MachineDef.{MachineDef}
use Rattle.phase_machine.specs.Now.{phase_now, processor_now, may_run_now}
use Rattle.blocking_columns.specs.declared.columns.Class.TheVariants.{Direct, Indirect, Preemption}
use Rattle.charge_laws.specs.Charges.{Charge, charge_to, class_at_home}

-- Shared memory: the charge of a job that waits for a resource that y holds.
abbrev pub holder_charge_now : MachineDef → RowDef → ℕ → Option Charge
holder_charge_now m row y =
    if is_job y (running_on row (processor_now m y)) then Some (record { job = y; class = Direct })
    else charge_to Indirect (running_on row (processor_now m y))

-- Shared memory: the charge of a job that waits, in this phase.
abbrev pub waiting_charge_in : MachineDef → RowDef → Phase → Option Charge
waiting_charge_in m row (Asking n q) = option_and_then (holder_charge_now m row) (holder_in row q)
waiting_charge_in m row _ = None

abbrev pub waiting_charge_now : MachineDef → RowDef → ℕ → Option Charge
waiting_charge_now m row j = waiting_charge_in m row (phase_now m j)

-- Shared memory: the charge of any blocked job.
abbrev pub shared_charge_now : MachineDef → RowDef → ℕ → Option Charge
shared_charge_now m row j =
    if may_run_now m (holder_in row) j then charge_to Preemption (running_on row (processor_now m j)) else waiting_charge_now m row j

-- DPCP: the charge of a job in a request of q.
abbrev pub home_charge_now : MachineDef → RowDef → ℕ → Option Charge
home_charge_now m row q =
    option_map (λ y. record { job = y; class = class_at_home q (phase_now m y) }) (running_on row (home_in m.list.set q))

-- DPCP: the charge of any blocked job, in this phase.
abbrev pub dpcp_charge_in : MachineDef → RowDef → ℕ → Phase → Option Charge
dpcp_charge_in m row j Local = charge_to Preemption (running_on row (processor_now m j))
dpcp_charge_in m row j (Asking n q) = home_charge_now m row q
dpcp_charge_in m row j Finished = None

abbrev pub dpcp_charge_now : MachineDef → RowDef → ℕ → Option Charge
dpcp_charge_now m row j = dpcp_charge_in m row j (phase_now m j)
