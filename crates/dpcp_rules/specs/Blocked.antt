-- Which jobs are blocked, as a test of a machine's state and the next row.
use Rattle.std.specs.Prelude.{ℕ, ◌&&◌, not, Bool, false, Option}
use Rattle.std.specs.Option.{option_map_or}
use Rattle.sporadic_model.specs.SetDef.{is_higher_local}
use Rattle.schedule_model.specs.RowDef.{RowDef, is_job, running_on}
use Rattle.phase_machine.specs.MachineDef.{MachineDef, task_in}
use Rattle.phase_machine.specs.Now.{active_now, processor_now, is_local_now}
use Rattle.dpcp_rules.specs.Homes.{column_now}

-- Is the job that runs on job j's processor a Local job of a higher task of it?
abbrev pub is_interfered : MachineDef → ℕ → Option ℕ → Bool
is_interfered m j running =
    option_map_or (λ r. is_higher_local m.list.set (task_in m.list.jobs j) (task_in m.list.jobs r) && is_local_now m r) running false

-- Is job j active, not running where it would run, and not interfered with?
unfoldable pub blocked_now : MachineDef → RowDef → ℕ → Bool
blocked_now m row j =
    active_now m j && (not (is_job j (running_on row (column_now m j))) && not (is_interfered m j (running_on row (processor_now m j))))
