-- The charge of a blocked job under spin locks, from a machine's state and the next row.
use Rattle.std.specs.Prelude.{◌≡◌, ℕ, ◌<◌, ◌==◌, ◌&&◌, Bool, false, Option, None, Some, if◌then◌else◌, length, IfSome}
use Rattle.std.specs.Option.{option_map_or, option_and_then}
use Rattle.number_laws.specs.Tests.{found_below}
use Rattle.sporadic_model.specs.SetDef.{task_at}
use Rattle.schedule_model.specs.RowDef.{RowDef, running_on, holder_in}
use Rattle.schedule_model.specs.JobDef.{JobsDef}
use Rattle.schedule_model.specs.declared.job.JobId.{JobId}
use Rattle.schedule_model.specs.Phase.{Phase}
use Rattle.schedule_model.specs.Phase.Phase.{Asking}
use Rattle.phase_machine.specs.MachineDef.{MachineDef}
use Rattle.phase_machine.specs.Now.{phase_now, current_now, processor_now}
use Rattle.blocking_columns.specs.declared.columns.Class.{Class}
use Rattle.blocking_columns.specs.declared.columns.Class.TheVariants.{Direct, Indirect, Preemption}
use Rattle.charge_laws.specs.Charges.{Charge, charge_to}
use Rattle.charged_protocols.specs.Seen.{charge_seen}
use Rattle.spin_protocol.specs.SpinTests.{spins_now}

-- Does task x's active job spin? Is x a task of processor k for which it does? And which job spins there? The search begins with the
-- highest task.
abbrev pub current_spins : MachineDef → RowDef → ℕ → Bool
current_spins m row x = option_map_or (spins_now m (holder_in row)) (current_now m x) false

abbrev pub is_spinning_task_now : MachineDef → RowDef → ℕ → ℕ → Bool
is_spinning_task_now m row k x = ((task_at m.list.set x).processor == k) && current_spins m row x

unfoldable pub spinner_now : MachineDef → RowDef → ℕ → Option ℕ
spinner_now m row k = option_and_then (current_now m) (found_below (length m.list.set.tasks) (is_spinning_task_now m row k))

-- The charge for job j: while job s spins in this phase; while a job spins on its processor, if one does; and while its processor runs this
-- job, or nothing.
abbrev pub class_of_spinner : ℕ → ℕ → Class
class_of_spinner j s = if s == j then Direct else Indirect

abbrev pub charge_in : RowDef → ℕ → ℕ → Phase → Option Charge
charge_in row j s (Asking n q) = charge_to (class_of_spinner j s) (holder_in row q)
charge_in row j s _ = None

abbrev pub spinner_charge_now : MachineDef → RowDef → ℕ → ℕ → Option Charge
spinner_charge_now m row j s = charge_in row j s (phase_now m s)

abbrev pub spinning_charge_now : MachineDef → RowDef → ℕ → Option Charge
spinning_charge_now m row j = option_and_then (spinner_charge_now m row j) (spinner_now m row (processor_now m j))

abbrev pub charge_with : MachineDef → RowDef → ℕ → Option ℕ → Option Charge
charge_with m row j (Some r) = Some (record { job = r; class = Preemption })
charge_with m row j None = spinning_charge_now m row j

abbrev pub beside_charge_now : MachineDef → RowDef → ℕ → Option Charge
beside_charge_now m row j = charge_with m row j (running_on row (processor_now m j))

-- Does the answer name this charge, and then a job of the list?
pub record Names (list : JobsDef) (charge : Option Charge) (named : Option (JobId × Class)) : Type 0 where
  pub value : charge_seen named ≡ charge
  pub listed : IfSome named (λ c. c.0.0 < length list.jobs)
