-- How long a request and those of lower tasks may run, and the requests of the higher tasks on a processor, as a table.
use Rattle.std.specs.Prelude.{◌≡◌, ℕ, ◌+◌, ◌<◌, ◌≤◌, List, length, slice_index}
use Rattle.number_laws.specs.Sums.{sum_below, only_if}
use Rattle.sporadic_model.specs.SetDef.{SetDef}
use Rattle.sporadic_model.specs.Users.{length_of}
use Rattle.sporadic_model.specs.Homes.{home_in}
use Rattle.schedule_model.specs.Measures.{greatest_below}
use Rattle.window_laws.specs.Windows.{time_at, may_hold_up, longest_lower, ticks_by}

-- Does the table say of each task higher than i how many ticks all requests of one of its jobs may run on processor k?
pub record AreTimes (set : SetDef) (i k : ℕ) (times : List ℕ) : Type 0 where
  pub enough : i ≤ length times
  pub each : (x : ℕ) → x < i → slice_index times x ≡ time_at set x k
  pub small : (x : ℕ) → x < i → slice_index times x ≤ 32000000000000

-- How many ticks may a request of q by i last, and the longest lower request that may hold it up?
abbrev pub own_and_lower : SetDef → ℕ → ℕ → ℕ
own_and_lower set i q = length_of set i q + longest_lower set i (home_in set q)

-- How many ticks may the longest request by x last that may hold up a request of i on processor k?
abbrev pub longest_by : SetDef → ℕ → ℕ → ℕ → ℕ
longest_by set i k x = greatest_below (length set.resources) (λ q. only_if (may_hold_up set i k x q) (length_of set x q))

-- How many ticks may requests of all tasks higher than i run on processor k, in a span of ticks?
abbrev pub ticks_by_higher : SetDef → (ℕ → ℕ) → ℕ → ℕ → ℕ → ℕ
ticks_by_higher set bounds i k span = sum_below i (ticks_by set bounds k span)
