-- The groups of closer rows.
use Rattle.std.specs.Prelude.{ℕ, ◌+◌, ◌++◌, List, [], ◌∷◌, length}
use Rattle.sporadic_model.specs.SetDef.{SetDef}
use Rattle.fragments.specs.Constraints.{ConstraintDef, per, per_where}
use Rattle.blocking_columns.specs.Columns.{is_lower_local}
use Rattle.closer_distributed_laws.specs.CloserRows.{home_task_row, lower_task_row, lower_wait_row, home_rows}

-- The row of home tasks of each processor. They are numbered from 1.
abbrev pub home_task_rows : SetDef → ℕ → List ConstraintDef
home_task_rows set i = per set.processors (λ k. home_task_row set i (k + 1))

-- The row of each lower task of i's processor.
abbrev pub lower_task_rows : SetDef → ℕ → List ConstraintDef
lower_task_rows set i = per_where (is_lower_local set i) (length set.tasks) (lower_task_row set i)

-- The rows that DPCP has behind those of windows.
abbrev pub dpcp_further_rows : SetDef → ℕ → List ConstraintDef
dpcp_further_rows set i = home_rows set i ++ lower_wait_row set i ∷ []
