-- Which columns and rows make a program, which rows rise with the bounds, and what limits depend on.
use Rattle.std.specs.Prelude.{◌≡◌, ℕ, ◌<◌, ◌≤◌, ◌^◌, List, length, slice_index}
use Rattle.std.specs.List.{All, Contains}
use Rattle.program_form.specs.declared.TheConstants.{MOST_NUMBER}
use Rattle.sporadic_model.specs.SetDef.{SetDef}
use Rattle.blocking_columns.specs.ColumnDef.{ColumnDef, IsKnown}
use Rattle.fragments.specs.Constraints.{ConstraintDef}
use Rattle.blocking_columns.specs.Windows.{jobs_in}
use Rattle.direct_constraints.specs.Rows.{request_row}

-- Are the row's coefficients and its limit at these bounds small?
pub record IsSmallRow (r : List ℕ) (row : ConstraintDef) : Type 0 where
  pub coefficients : (c : ColumnDef) → row.coefficient c ≤ MOST_NUMBER
  pub limit : row.limit (slice_index r) ≤ MOST_NUMBER

-- Is the row's limit at the bounds r at most that at s?
abbrev pub Rises : List ℕ → List ℕ → ConstraintDef → Type 0
Rises r s row = row.limit (slice_index r) ≤ row.limit (slice_index s)

-- For each task: can at most as many of its jobs run within the bound of a job of i at the bounds r as at s?
abbrev pub HasJobsAtMost : SetDef → ℕ → List ℕ → List ℕ → Type 0
HasJobsAtMost set i r s = (x : ℕ) → x < length set.tasks → jobs_in set (slice_index r) i x ≤ jobs_in set (slice_index s) i x

-- The same, with exactly as many.
abbrev pub KeepsJobs : SetDef → ℕ → List ℕ → List ℕ → Type 0
KeepsJobs set i r s = (x : ℕ) → x < length set.tasks → jobs_in set (slice_index r) i x ≡ jobs_in set (slice_index s) i x

-- Are the columns of tasks and resources of the set? Is the row of each task's requests of each resource among the rows? Is no row large at
-- these bounds?
pub record AreWritten (set : SetDef) (i : ℕ) (columns : List ColumnDef) (rows : List ConstraintDef) (r : List ℕ) : Type 0 where
  pub known : All (IsKnown (length set.tasks) (length set.resources)) columns
  pub requests : (x q : ℕ) → x < length set.tasks → q < length set.resources → Contains rows (request_row set i x q)
  pub small : All (IsSmallRow r) rows
  pub columns_to : length columns < 2 ^ 32
  pub rows_to : length rows < 2 ^ 32
