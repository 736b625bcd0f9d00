-- Which tasks make the requests of a task's columns?
use Rattle.std.specs.Prelude.{◌≡◌, ℕ, true, List}
use Rattle.std.specs.List.{All}
use Rattle.sporadic_model.specs.SetDef.{SetDef}
use Rattle.sporadic_model.specs.Users.{is_user}
use Rattle.blocking_columns.specs.declared.columns.Fragment.{Fragment}
use Rattle.blocking_columns.specs.ColumnDef.{ColumnDef, column_seen, is_direct}

-- Does the column's task use the column's resource? And if the column is of direct blocking, does task i use it too?
abbrev pub IsAskedFor : SetDef → ℕ → ColumnDef → Type 0
IsAskedFor set i c = (is_user set c.resource c.task ≡ true) × (is_direct c.class ≡ true → is_user set c.resource i ≡ true)

-- Is this true of each of the columns?
abbrev pub AreAskedFor : SetDef → ℕ → List Fragment → Type 0
AreAskedFor set i columns = All (λ c. IsAskedFor set i (column_seen c)) columns
