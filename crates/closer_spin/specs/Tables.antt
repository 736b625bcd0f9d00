-- Tables that tell of resources.
use Rattle.std.specs.Prelude.{◌≡◌, ℕ, ◌+◌, ◌<◌, ◌≤◌, Bool, false, List, length, slice_index, slice_index_or}
use Rattle.number_laws.specs.Sums.{sum_below, only_if}
use Rattle.sporadic_model.specs.SetDef.{SetDef}
use Rattle.sporadic_model.specs.Users.{count_of}
use Rattle.spin_charging.specs.SpinPrograms.{is_used_below, higher_requests}
use Rattle.spin_protocol.specs.Tables.{Tells}
use Rattle.closer_spin_laws.specs.CloserSpinRows.{is_spun_below, is_spun_above, is_used_above, is_lone, are_few_above, are_many_spun}

-- Does the table say of each resource whether a lower task of i's processor uses it? Whether i or a higher one does? And whether a lower one
-- may spin there for a request of it by a task of processor k?
abbrev pub TellsUsedBelow : SetDef → ℕ → List Bool → Type 0
TellsUsedBelow set i table = Tells (length set.resources) (is_used_below set i) table

abbrev pub TellsUsedAbove : SetDef → ℕ → List Bool → Type 0
TellsUsedAbove set i table = Tells (length set.resources) (is_used_above set i) table

abbrev pub TellsSpun : SetDef → ℕ → ℕ → List Bool → Type 0
TellsSpun set i k table = Tells (length set.resources) (is_spun_below set i k) table

-- Do the tables say which resources lower tasks use, and which are used above?
pub record AreUsers (set : SetDef) (i : ℕ) (below above : List Bool) : Type 0 where
  pub below_is : TellsUsedBelow set i below
  pub above_is : TellsUsedAbove set i above

-- Do the tables tell which of the resources for which lower tasks may spin are used above and which are lone, and is it known whether few
-- are used above, and whether they are many?
pub record CanSetApart (set : SetDef) (i k : ℕ) (shared lone : List Bool) (few_above many : Bool) : Type 0 where
  pub shared_is : Tells (length set.resources) (is_spun_above set i k) shared
  pub lone_is : Tells (length set.resources) (is_lone set i k) lone
  pub few_is : few_above ≡ are_few_above set i k
  pub many_is : many ≡ are_many_spun set i k

-- By resource, how many requests of it i and the higher tasks of its processor make while a job of i runs.
pub record AreUpper (set : SetDef) (bounds : List ℕ) (i : ℕ) (requests : List ℕ) : Type 0 where
  pub one_each : length requests ≡ length set.resources
  pub each : (q : ℕ) → q < length set.resources
      → slice_index requests q ≡ count_of set i q + higher_requests set (slice_index bounds) i q
  pub most : (q : ℕ) → q < length set.resources → slice_index requests q ≤ 128000000001000

-- Have the tables an entry for each of few resources, and are the numbers small?
pub record CanSum (table : List Bool) (requests : List ℕ) : Type 0 where
  pub one_each : length requests ≡ length table
  pub few : length table ≤ 32
  pub most : (q : ℕ) → q < length table → slice_index requests q ≤ 128000000001000

-- Is this the sum of those that pass?
pub record IsSumPassing (table : List Bool) (requests : List ℕ) (total : ℕ) : Type 0 where
  pub value : total ≡ sum_below (length table) (λ q. only_if (slice_index_or table q false) (slice_index requests q))
  pub most : total ≤ 4096000000032000
