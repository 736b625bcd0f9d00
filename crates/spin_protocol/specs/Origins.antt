-- A table of where columns come from.
use Rattle.std.specs.Prelude.{◌≡◌, ℕ, ◌*◌, ◌+◌, Bool, true, false, List, length, slice_index_or}
use Rattle.std.specs.List.{All}
use Rattle.sporadic_model.specs.SetDef.{SetDef, task_at}
use Rattle.blocking_columns.specs.declared.columns.Class.TheVariants as class
use Rattle.blocking_columns.specs.declared.columns.Fragment.{Fragment}
use Rattle.blocking_columns.specs.ColumnDef.{ColumnDef, column_seen, is_class, IsKnown}

-- The place of processor k, counted from 1, and resource q. There are at most 64 processors.
abbrev pub origin_place : ℕ → ℕ → ℕ
origin_place k q = q * 64 + k

-- Does the table mark the processor and the resource of the column, unless it is one of preemption? And of each column?
abbrev pub IsMarked : SetDef → List Bool → ColumnDef → Type 0
IsMarked set table c = is_class class.Preemption c.class ≡ false
    → slice_index_or table (origin_place (task_at set c.task).processor c.resource) false ≡ true

abbrev pub AreOrigins : SetDef → List Fragment → List Bool → Type 0
AreOrigins set columns table = All (λ c. IsMarked set table (column_seen c)) columns

-- Is the column of tasks and resources of the set, and has the table a place for each processor and resource?
pub record CanMark (set : SetDef) (c : ColumnDef) (table : List Bool) : Type 0 where
  pub known : IsKnown (length set.tasks) (length set.resources) c
  pub room : length table ≡ length set.resources * 64 + 1

-- Is the column marked in the table that was made of another one, and all that this one marks?
pub record Marks (set : SetDef) (c : ColumnDef) (before after : List Bool) : Type 0 where
  pub room : length after ≡ length before
  pub marked : IsMarked set after c
  pub kept : (n : ℕ) → slice_index_or before n false ≡ true → slice_index_or after n false ≡ true
