-- The rows of queues at each processor. Processors are numbered from 1.
use Rattle.std.specs.Prelude.{◌≡◌, ℕ, ◌+◌, ◌<◌, List, length}
use Rattle.sporadic_model.specs.SetDef.{SetDef}
use Rattle.blocking_columns.specs.declared.columns.Fragment.{Fragment}
use Rattle.fragments.specs.Constraints.{ConstraintDef, per_pair}
use Rattle.fragments.specs.RowStretch.{IsRowOver}
use Rattle.dflp_laws.specs.Programs.{home_queue_row}

-- The row of the queue with each task at each processor.
abbrev pub home_queue_rows : SetDef → ℕ → List ConstraintDef
home_queue_rows set i = per_pair (length set.tasks) set.processors (λ x k. home_queue_row set i x (k + 1))

-- Is there a queue of i with task x at processor n + 1, and can its row be given over the stretch, as over columns of x?
pub record IsQueueWith (set : SetDef) (i x n : ℕ) (columns : List Fragment) (from to : ℕ) : Type 0 where
  pub task : x < length set.tasks
  pub processor : n < set.processors
  pub over : IsRowOver set i (home_queue_row set i x (n + 1)) (λ c. c.task ≡ x) columns from to
