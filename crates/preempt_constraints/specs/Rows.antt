-- The rows of preemption blocking, the same under every protocol. In each, i is the analysed task.
use Rattle.std.specs.Prelude.{ℕ, ◌+◌, ◌==◌, ◌&&◌, List, length}
use Rattle.sporadic_model.specs.SetDef.{SetDef}
use Rattle.blocking_columns.specs.declared.columns.Class.TheVariants.{Preemption}
use Rattle.blocking_columns.specs.ColumnDef.{is_class}
use Rattle.blocking_columns.specs.Columns.{is_lower_local}
use Rattle.blocking_columns.specs.Windows.{all_requests}
use Rattle.fragments.specs.Constraints.{ConstraintDef, counting, per_where}

-- Intervals: a job of i can be preempted from its release on, and again after each of its requests. Each time at most one request of x
-- preempts it.
abbrev pub interval_row : SetDef → ℕ → ℕ → ConstraintDef
interval_row set i x = counting (λ c. (c.task == x) && is_class Preemption c.class) (λ bounds. 1 + all_requests set i)

-- The rows of intervals, one for each lower task on i's processor.
abbrev pub preemption_rows : SetDef → ℕ → List ConstraintDef
preemption_rows set i = per_where (is_lower_local set i) (length set.tasks) (interval_row set i)
