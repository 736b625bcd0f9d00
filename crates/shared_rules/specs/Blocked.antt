-- Which jobs are blocked, as a test of a machine's state and the next row.
use Rattle.std.specs.Prelude.{ℕ, ◌&&◌, not, Bool, false, Option}
use Rattle.std.specs.Option.{option_map_or}
use Rattle.sporadic_model.specs.SetDef.{is_higher_local}
use Rattle.schedule_model.specs.RowDef.{RowDef, is_job, running_on}
use Rattle.phase_machine.specs.MachineDef.{MachineDef, task_in}
use Rattle.phase_machine.specs.Now.{active_now, processor_now}

-- Is the job that runs on job j's processor of a higher task of that processor?
abbrev pub is_higher_beside : MachineDef → ℕ → Option ℕ → Bool
is_higher_beside m j running = option_map_or (λ r. is_higher_local m.list.set (task_in m.list.jobs j) (task_in m.list.jobs r)) running false

abbrev pub waits_beside : MachineDef → ℕ → Option ℕ → Bool
waits_beside m j running = not (is_job j running) && not (is_higher_beside m j running)

unfoldable pub blocked_now : MachineDef → RowDef → ℕ → Bool
blocked_now m row j = active_now m j && waits_beside m j (running_on row (processor_now m j))
