-- The tables that the limits of a task's closer rows are read from. In each, i is the analysed task.
use Rattle.std.specs.Prelude.{◌≡◌, ℕ, ◌==◌, ◌&&◌, not, ◌<◌, ◌≤◌, Bool, false, List, length, slice_index, slice_index_or}
use Rattle.sporadic_model.specs.SetDef.{SetDef}
use Rattle.blocking_columns.specs.Columns.{have_one_processor}
use Rattle.indirect_constraints.specs.Rows.{is_beside}
use Rattle.closer_laws.specs.CloserRows.{is_shared_out, is_held_there, is_held_beside, requests_where}
use Rattle.shared_requests.specs.declared.holders.Holders.{Holders}
use Rattle.shared_requests.specs.declared.holders.Holders.TheVariants as holders

-- Is it said of each resource whether it is shared out from i's processor?
pub record AreSharedOut (set : SetDef) (i : ℕ) (shared : List Bool) : Type 0 where
  pub one_each : length shared ≡ length set.resources
  pub each : (q : ℕ) → q < length set.resources → slice_index_or shared q false ≡ is_shared_out set i q

-- Is y one of these holders on x's processor?
abbrev pub is_holder : Holders → SetDef → ℕ → ℕ → ℕ → Bool
is_holder holders.There set i x y = have_one_processor set y x && not (y == i)
is_holder holders.Beside set i x y = is_beside set x y && not (y == i)

-- May i wait for q while one of them holds it?
abbrev pub is_held_by : Holders → SetDef → ℕ → ℕ → ℕ → Bool
is_held_by holders.There set i x q = is_held_there set i x q
is_held_by holders.Beside set i x q = is_held_beside set i x q

-- Is it said of each task how many requests of i such holders on its processor may hold up?
pub record AreHeldUp (by : Holders) (set : SetDef) (i : ℕ) (counts : List ℕ) : Type 0 where
  pub one_each : length counts ≡ length set.tasks
  pub each : (x : ℕ) → x < length set.tasks → slice_index counts x ≡ requests_where set i (is_held_by by set i x)
  pub small : (x : ℕ) → x < length set.tasks → slice_index counts x ≤ 32000
