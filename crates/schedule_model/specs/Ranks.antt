-- The orders in which protocols grant requests and run holders.
use Rattle.std.specs.Prelude.{ℕ, length, unwrap_or}
use Rattle.sporadic_model.specs.Users.{remote_ceiling_of}
use Rattle.schedule_model.specs.RowDef.{Trace}
use Rattle.schedule_model.specs.Phase.{Phase, phase_of}
use Rattle.schedule_model.specs.Phase.Phase.{Asking}
use Rattle.schedule_model.specs.Activity.{task_of, processor_of, issue_tick_of}
use Rattle.schedule_model.specs.SharedRules.{Ranks}

-- The order of tasks: a higher one goes first.
abbrev pub by_task : Trace → ℕ → ℕ → ℕ
by_task w t j = task_of w j

-- The priority of a job on processor k that holds the resource of its request. It is that of the resource's highest user on the other
-- processors. If all users are on k, it is that of the highest user.
abbrev pub boost_in : Trace → ℕ → Phase → ℕ
boost_in w k (Asking n q) = unwrap_or (remote_ceiling_of w.set q k) (length w.set.tasks)
boost_in w k _ = length w.set.tasks

-- MPCP grants to the highest task, and runs the holder with the highest boost.
unfoldable pub mpcp : Ranks
mpcp = record { grant = by_task; run = λ w t j. boost_in w (processor_of w j) (phase_of w t j) }

-- FMLP+ grants and runs in the order of issue.
unfoldable pub fmlp_plus : Ranks
fmlp_plus = record { grant = issue_tick_of; run = issue_tick_of }
