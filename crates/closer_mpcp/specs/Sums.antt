-- Sums over tasks, by processor. In each, f says how much a task makes, and s is a table of such sums.
use Rattle.std.specs.Prelude.{◌≡◌, ℕ, ◌<◌, ◌≤◌, ◌==◌, ◌&&◌, nat_lt, List, [], length, slice_index, slice_index_or}
use Rattle.number_laws.specs.Sums.{sum_below, only_if}
use Rattle.sporadic_model.specs.SetDef.{SetDef, task_at}
use Rattle.sporadic_model.specs.Users.{used_by, count_of}
use Rattle.indirect_constraints.specs.Rows.{is_beside}
use Rattle.closer_mpcp_laws.specs.CloserMpcpRows.{is_away}
use Rattle.closer_mpcp.specs.declared.sums.Sums.{Sums}

-- How much do all tasks of processor k make?
abbrev pub made_on : SetDef → (ℕ → ℕ) → ℕ → ℕ
made_on set f k = sum_below (length set.tasks) (λ y. only_if ((task_at set y).processor == k) (f y))

-- How much do other tasks of x's processor make?
abbrev pub made_beside : SetDef → (ℕ → ℕ) → ℕ → ℕ
made_beside set f x = sum_below (length set.tasks) (λ y. only_if (is_beside set x y) (f y))

-- How much do tasks of other processors make?
abbrev pub made_away : SetDef → (ℕ → ℕ) → ℕ → ℕ
made_away set f x = sum_below (length set.tasks) (λ y. only_if (is_away set x y) (f y))

-- How much do tasks of other processors than x's and i's make?
abbrev pub made_away_from_both : SetDef → (ℕ → ℕ) → ℕ → ℕ → ℕ
made_away_from_both set f i x = sum_below (length set.tasks) (λ y. only_if (is_away set x y && is_away set i y) (f y))

-- Does the table have the sums, on each processor and in all, of what each task makes by itself?
pub record AreSums (set : SetDef) (s : Sums) : Type 0 where
  pub tasks : length s.own ≡ 64
  pub processors : length s.on ≡ 65
  pub sum : (k : ℕ) → k < 65 → slice_index s.on k ≡ made_on set (slice_index s.own) k
  pub small : (k : ℕ) → k < 65 → slice_index s.on k ≤ 128000000000000
  pub own_small : (y : ℕ) → y < 64 → slice_index s.own y ≤ 128000000000000
  pub all : s.all ≡ sum_below (length set.tasks) (slice_index s.own)
  pub all_small : s.all ≤ 128000000000000

-- Is that so, and does each task that is higher than i make as much as f says, and no other task anything?
pub record AreSumsOf (set : SetDef) (i : ℕ) (f : ℕ → ℕ) (s : Sums) : Type 0 where
  pub sums : AreSums set s
  pub each : (y : ℕ) → y < length set.tasks → slice_index s.own y ≡ only_if (nat_lt y i) (f y)

-- Does the table have the sums of the requests of r that one job of each task makes?
abbrev pub AreSumsOfAll : SetDef → ℕ → Sums → Type 0
AreSumsOfAll set r s = AreSumsOf set (length set.tasks) (λ y. count_of set y r) s

-- And of each task that is lower than i?
abbrev pub AreLowerSumsOf : SetDef → ℕ → ℕ → Sums → Type 0
AreLowerSumsOf set i r s = AreSumsOf set (length set.tasks) (λ y. only_if (nat_lt i y) (count_of set y r)) s

-- Are there such tables of each resource that i requests, in their order, where f says how much a task makes of a resource?
pub record AreSumsOfUsed (set : SetDef) (i : ℕ) (f : ℕ → ℕ → ℕ) (tables : List Sums) : Type 0 where
  pub one_each : length tables ≡ length (used_by set i)
  pub each : (k : ℕ) → k < length (used_by set i)
      → AreSumsOf set i (f (slice_index (used_by set i) k)) (slice_index_or tables k (record { own = []; on = []; all = 0 }))

-- Are there such tables of the tasks lower than i, for each resource that i requests, in their order?
pub record AreLowerSums (set : SetDef) (i : ℕ) (tables : List Sums) : Type 0 where
  pub one_each : length tables ≡ length (used_by set i)
  pub each : (k : ℕ) → k < length (used_by set i)
      → AreLowerSumsOf set i (slice_index (used_by set i) k) (slice_index_or tables k (record { own = []; on = []; all = 0 }))
