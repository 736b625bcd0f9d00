-- The orders of MPCP at a machine.
use Rattle.std.specs.Prelude.{ℕ, length, unwrap_or}
use Rattle.sporadic_model.specs.SetDef.{SetDef}
use Rattle.sporadic_model.specs.Users.{remote_ceiling_of}
use Rattle.schedule_model.specs.Phase.{Phase}
use Rattle.schedule_model.specs.Phase.Phase.{Asking}
use Rattle.phase_machine.specs.MachineDef.{MachineDef, task_in}
use Rattle.phase_machine.specs.Now.{phase_now, processor_now}

-- The task of job j.
abbrev pub task_now : MachineDef → ℕ → ℕ
task_now m j = task_in m.list.jobs j

-- The priority of a job on processor k in this phase: the ceiling, as k sees it, of the resource that it requests. If it requests none, it
-- is the number of tasks, which is below all of them.
abbrev pub boost_at : SetDef → ℕ → Phase → ℕ
boost_at set k (Asking n q) = unwrap_or (remote_ceiling_of set q k) (length set.tasks)
boost_at set k _ = length set.tasks

abbrev pub boost_now : MachineDef → ℕ → ℕ
boost_now m j = boost_at m.list.set (processor_now m j) (phase_now m j)
