-- A test of the first numbers as a table.
use Rattle.std.specs.Prelude.{◌≡◌, ℕ, ◌<◌, Bool, false, List, length, slice_index_or}

-- Does the table say of each number below n whether it passes the test?
pub record Tells (n : ℕ) (test : ℕ → Bool) (table : List Bool) : Type 0 where
  pub one_each : length table ≡ n
  pub each : (q : ℕ) → q < n → slice_index_or table q false ≡ test q
