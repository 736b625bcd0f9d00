-- The closer rows that one call adds, in their order. In each, i is the analysed task.
use Rattle.std.specs.Prelude.{ℕ, List, [], ◌∷◌, ◌++◌, length}
use Rattle.sporadic_model.specs.SetDef.{SetDef}
use Rattle.blocking_columns.specs.Columns.{is_lower_local}
use Rattle.fragments.specs.Constraints.{ConstraintDef, per, per_pair, per_where}
use Rattle.closer_laws.specs.CloserRows.{local_preemption_row}
use Rattle.closer_mpcp_laws.specs.CloserMpcpRows.{shared_holding_row, resource_holding_row, shared_interval_row, lower_wait_row, further_rows}
use Rattle.mpcp_window_laws.specs.WaitRows.{held_in_waits, wait_rows}

-- The rows of shared holdings: of each task, and then of each task and resource.
abbrev pub holding_rows : SetDef → ℕ → List ConstraintDef
holding_rows set i = per (length set.tasks) (shared_holding_row set (held_in_waits set i) i)
    ++ per_pair (length set.tasks) (length set.resources) (resource_holding_row set (held_in_waits set i) i)

-- The rows of shared intervals: one for each lower task of i's processor.
abbrev pub interval_rows : SetDef → ℕ → List ConstraintDef
interval_rows set i = per_where (is_lower_local set i) (length set.tasks) (shared_interval_row set i)

-- The two rows that there are once.
abbrev pub single_rows : SetDef → ℕ → List ConstraintDef
single_rows set i = local_preemption_row set i ∷ lower_wait_row set i ∷ []

-- All rows below those of waits. Higher tasks hold within the windows of i's waits.
abbrev pub rows_below_waits : SetDef → ℕ → List ConstraintDef
rows_below_waits set i = further_rows set (held_in_waits set i) i

-- These, and behind them the rows of waits.
abbrev pub closer_rows : SetDef → ℕ → List ConstraintDef
closer_rows set i = rows_below_waits set i ++ wait_rows set i
