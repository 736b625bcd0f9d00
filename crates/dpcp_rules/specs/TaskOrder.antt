-- The order of tasks at a machine, in which DPCP grants requests and runs holders.
use Rattle.std.specs.Prelude.{refl, ℕ}
use Rattle.schedule_model.specs.SharedRules.{Ranks}
use Rattle.schedule_model.specs.Ranks.{by_task}
use Rattle.phase_machine.specs.MachineDef.{MachineDef, task_in}
use Rattle.phase_machine.specs.Order.{GivesRanks}

abbrev pub task_ranks : Ranks
task_ranks = record { grant = by_task; run = by_task }

-- The task of job j.
abbrev pub task_now : MachineDef → ℕ → ℕ
task_now m j = task_in m.list.jobs j

pub tasks_give : GivesRanks task_ranks task_now task_now
tasks_give = record { grant = λ m rows shows q j asks. refl; run = λ m rows shows q j asks. refl }
