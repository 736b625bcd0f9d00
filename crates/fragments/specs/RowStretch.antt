-- The stretch of columns in which a row can have coefficients above zero.
use Rattle.std.specs.Prelude.{◌≡◌, ℕ, ◌<◌, ◌≤◌, List, length}
use Rattle.std.specs.List.{AllWithin}
use Rattle.blocking_columns.specs.declared.columns.Fragment.{Fragment}
use Rattle.sporadic_model.specs.SetDef.{SetDef}
use Rattle.blocking_columns.specs.ColumnDef.{ColumnDef, column_seen, AreKnown}
use Rattle.fragments.specs.Constraints.{ConstraintDef}

-- Are the row's coefficients zero in all columns before the place a, and in all from the place b on?
pub record IsStretch (row : ConstraintDef) (columns : List Fragment) (a b : ℕ) : Type 0 where
  pub order : a ≤ b
  pub within : b ≤ length columns
  pub before : AllWithin (λ c. row.coefficient (column_seen c) ≡ 0) columns 0 a
  pub behind : AllWithin (λ c. row.coefficient (column_seen c) ≡ 0) columns b (length columns)

-- Can the coefficients of task i's row be given over these columns? They are columns of the set, outside the stretch each has coefficient zero,
-- and the row can give those inside it.
pub record IsRowOver (set : SetDef) (i : ℕ) (row : ConstraintDef) (gives : ColumnDef → Type 0) (columns : List Fragment) (a b : ℕ) : Type 0 where
  pub task : i < length set.tasks
  pub known : AreKnown (length set.tasks) (length set.resources) columns
  pub stretch : IsStretch row columns a b
  pub over : AllWithin (λ c. gives (column_seen c)) columns a b

-- Is i a task of the set, and c a column of a task and a resource of the set for which its row can give the coefficient?
pub record IsGivenColumn (set : SetDef) (i : ℕ) (gives : ColumnDef → Type 0) (c : Fragment) : Type 0 where
  pub task : i < length set.tasks
  pub other : c.task.0 < length set.tasks
  pub resource : c.resource.0 < length set.resources
  pub over : gives (column_seen c)
