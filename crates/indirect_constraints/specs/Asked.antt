-- Which resources does the analysed task request at the processors that run its columns' requests?
use Rattle.std.specs.Prelude.{◌≡◌, ℕ, ◌<◌, false, true, List, length}
use Rattle.std.specs.List.{All}
use Rattle.sporadic_model.specs.SetDef.{SetDef}
use Rattle.sporadic_model.specs.Users.{is_user}
use Rattle.sporadic_model.specs.Homes.{home_in}
use Rattle.blocking_columns.specs.declared.columns.Fragment.{Fragment}
use Rattle.blocking_columns.specs.ColumnDef.{ColumnDef, column_seen, is_preemption}

-- Does task i use a resource of the home of the column's resource? Nothing is asked of a column of preemption.
abbrev pub IsAskedAtHome : SetDef → ℕ → ColumnDef → Type 0
IsAskedAtHome set i c = is_preemption c.class ≡ false
    → (q : ℕ) × (q < length set.resources) × (is_user set q i ≡ true) × (home_in set q ≡ home_in set c.resource)

-- Is this true of each of the columns?
abbrev pub AreAskedAtHome : SetDef → ℕ → List Fragment → Type 0
AreAskedAtHome set i columns = All (λ c. IsAskedAtHome set i (column_seen c)) columns
