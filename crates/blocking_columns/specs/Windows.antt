-- How many jobs, and how many requests, of another task can run while a job of the analysed task does.
use Rattle.std.specs.Prelude.{ℕ, ◌+◌, ◌*◌, ◌==◌, Bool, length}
use Rattle.number_laws.specs.Sums.{sum_below, only_if}
use Rattle.sporadic_model.specs.SetDef.{SetDef, task_at, jobs_within}
use Rattle.sporadic_model.specs.Users.{count_of}
use Rattle.sporadic_model.specs.Homes.{home_in}

-- How many jobs of task x can run in a window of w ticks? One that arrived as early as its bound and its jitter together before the
-- window may still run in it.
abbrev pub jobs_during : SetDef → (ℕ → ℕ) → ℕ → ℕ → ℕ
jobs_during set bounds w x = jobs_within w (bounds x + (task_at set x).jitter) (task_at set x).period

-- How many requests of resource q can these jobs make?
abbrev pub requests_during : SetDef → (ℕ → ℕ) → ℕ → ℕ → ℕ → ℕ
requests_during set bounds w x q = count_of set x q * jobs_during set bounds w x

-- And how many can those of all tasks higher than i make that pass the test, within the bound of a job of i?
abbrev pub requests_by_higher : SetDef → (ℕ → ℕ) → ℕ → (ℕ → Bool) → ℕ → ℕ
requests_by_higher set bounds i test q = sum_below i (λ h. only_if (test h) (requests_during set bounds (bounds i) h q))

-- The jobs and requests of task x within the bound of a job of i, as contracts name them.
abbrev pub jobs_in : SetDef → (ℕ → ℕ) → ℕ → ℕ → ℕ
jobs_in set bounds i x = jobs_during set bounds (bounds i) x

abbrev pub requests_in : SetDef → (ℕ → ℕ) → ℕ → ℕ → ℕ → ℕ
requests_in set bounds i x q = requests_during set bounds (bounds i) x q

-- How many requests can one job of task i make, over all resources?
abbrev pub all_requests : SetDef → ℕ → ℕ
all_requests set i = sum_below (length set.resources) (λ q. count_of set i q)

-- And over the resources of processor k?
abbrev pub requests_at : SetDef → ℕ → ℕ → ℕ
requests_at set i k = sum_below (length set.resources) (λ q. only_if (home_in set q == k) (count_of set i q))
