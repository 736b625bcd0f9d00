-- The window of a request under DPCP: within how many ticks of its issue does it end?
use Rattle.std.specs.Prelude.{ℕ, suc, ◌+◌, ◌*◌, ◌==◌, ◌&&◌, Bool, nat_lt, nat_le, length, Option}
use Rattle.number_laws.specs.Sums.{sum_below, only_if}
use Rattle.number_laws.specs.Tests.{found_below}
use Rattle.sporadic_model.specs.SetDef.{SetDef, task_at}
use Rattle.sporadic_model.specs.Users.{count_of, length_of, is_user}
use Rattle.sporadic_model.specs.Homes.{home_in}
use Rattle.schedule_model.specs.Measures.{greatest_below}
use Rattle.blocking_columns.specs.Ceilings.{ceiling_rank}
use Rattle.blocking_columns.specs.Windows.{jobs_during}

-- How many ticks may all requests of one job of task x run on processor k?
abbrev pub time_at : SetDef → ℕ → ℕ → ℕ
time_at set x k = sum_below (length set.resources) (λ q. only_if (home_in set q == k) (count_of set x q * length_of set x q))

-- May a request of resource q by task x, which is lower than i, hold up a request of i on processor k? It may if k is q's home, x uses q,
-- and q's ceiling is no lower than i.
abbrev pub may_hold_up : SetDef → ℕ → ℕ → ℕ → ℕ → Bool
may_hold_up set i k x q = nat_lt i x && ((home_in set q == k) && (is_user set q x && nat_le (ceiling_rank set q) i))

-- How many ticks may the longest such request last? 0 if there is none.
abbrev pub longest_lower : SetDef → ℕ → ℕ → ℕ
longest_lower set i k = greatest_below (length set.tasks)
    (λ x. greatest_below (length set.resources) (λ q. only_if (may_hold_up set i k x q) (length_of set x q)))

-- Let a request of q by task i be open. How many ticks may requests run at q's home in the w ticks from its issue on? Three things count:
-- this request, one request of a lower task, and the requests of all higher tasks.
abbrev pub ticks_there : SetDef → (ℕ → ℕ) → ℕ → ℕ → ℕ → ℕ
ticks_there set bounds i q w = length_of set i q + longest_lower set i (home_in set q)
    + sum_below i (λ x. jobs_during set bounds w x * time_at set x (home_in set q))

-- What jobs of task x run on processor k. Contracts use this name.
abbrev pub ticks_by : SetDef → (ℕ → ℕ) → ℕ → ℕ → ℕ → ℕ
ticks_by set bounds k w x = jobs_during set bounds w x * time_at set x k

-- Are w ticks enough for the request: at least one, and as many as requests may run there in w ticks?
abbrev pub is_enough : SetDef → (ℕ → ℕ) → ℕ → ℕ → ℕ → Bool
is_enough set bounds i q w = nat_lt 0 w && nat_le (ticks_there set bounds i q w) w

-- The window: the least number of ticks that is enough. None if no number up to i's deadline is enough.
abbrev pub window_of : SetDef → (ℕ → ℕ) → ℕ → ℕ → Option ℕ
window_of set bounds i q = found_below (suc (task_at set i).deadline) (is_enough set bounds i q)
