-- The four groups of closer rows, in their order.
use Rattle.std.specs.Prelude.{ℕ, List, [], ◌∷◌, length}
use Rattle.sporadic_model.specs.SetDef.{SetDef}
use Rattle.fragments.specs.Constraints.{ConstraintDef, per, per_pair, per_where}
use Rattle.blocking_columns.specs.Columns.{is_lower_local}
use Rattle.closer_laws.specs.CloserRows.{holder_row, other_holder_row, lower_row}
use Rattle.closer_laws.specs.CloserRows.{local_preemption_row, local_wait_row, local_runner_row}

-- The row of holders of each task.
abbrev pub holder_rows : SetDef → ℕ → List ConstraintDef
holder_rows set i = per (length set.tasks) (holder_row set i)

-- The row of other holders of each task and each resource.
abbrev pub other_holder_rows : SetDef → ℕ → List ConstraintDef
other_holder_rows set i = per_pair (length set.tasks) (length set.resources) (other_holder_row set i)

-- The row of each lower task of i's processor.
abbrev pub lower_rows : SetDef → ℕ → List ConstraintDef
lower_rows set i = per_where (is_lower_local set i) (length set.tasks) (lower_row set i)

-- The three rows of what only one processor's tasks use.
abbrev pub local_rows : SetDef → ℕ → List ConstraintDef
local_rows set i = local_preemption_row set i ∷ local_wait_row set i ∷ local_runner_row set i ∷ []
