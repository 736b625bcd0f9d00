-- What a task requests beside a resource, as a table, and how many of its resources have each home.
use Rattle.std.specs.Prelude.{◌≡◌, ℕ, ◌<◌, ◌==◌, ◌&&◌, Bool, false, List, length, slice_index, slice_index_or}
use Rattle.number_laws.specs.Tests.{count_below}
use Rattle.sporadic_model.specs.SetDef.{SetDef}
use Rattle.sporadic_model.specs.Users.{is_user}
use Rattle.sporadic_model.specs.Homes.{home_in}
use Rattle.sporadic_model.specs.declared.limits.TheConstants.{MOST_PROCESSORS}
use Rattle.blocking_columns.specs.Columns.{requests_beside}

-- Is it said of each resource whether i requests another one of its home?
pub record AreAskedBeside (set : SetDef) (i : ℕ) (beside : List Bool) : Type 0 where
  pub one_each : length beside ≡ length set.resources
  pub each : (q : ℕ) → q < length set.resources → slice_index_or beside q false ≡ requests_beside set i q

-- How many of the resources that i uses have the home k?
abbrev pub used_at_home : SetDef → ℕ → ℕ → ℕ
used_at_home set i k = count_below (length set.resources) (λ r. is_user set r i && (home_in set r == k))

-- Is there a count for each number that may be a home, and is it 0?
pub record AreNoCounts (counts : List ℕ) : Type 0 where
  pub room : MOST_PROCESSORS < length counts
  pub none : (k : ℕ) → k < length counts → slice_index counts k ≡ 0

-- Is it said of each number that may be a home?
pub record AreHomeCounts (set : SetDef) (i : ℕ) (counts : List ℕ) : Type 0 where
  pub within : (q : ℕ) → q < length set.resources → home_in set q < length counts
  pub each : (k : ℕ) → k < length counts → slice_index counts k ≡ used_at_home set i k

-- Is it, where i is a task of the set, and q a resource?
pub record AreHomeCountsFor (set : SetDef) (i q : ℕ) (numbers : List ℕ) : Type 0 where
  pub task : i < length set.tasks
  pub resource : q < length set.resources
  pub counts : AreHomeCounts set i numbers
