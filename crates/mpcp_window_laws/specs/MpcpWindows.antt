-- The window of a request under MPCP: within how many ticks of its issue is it granted? While it waits, jobs of other tasks hold its
-- resource, one after another. In each, i is the task that waits for resource q.
use Rattle.std.specs.Prelude.{ℕ, suc, ◌+◌, ◌*◌, ◌==◌, ◌&&◌, not, Bool, nat_lt, nat_le, length, min, Option}
use Rattle.number_laws.specs.Sums.{sum_below, only_if}
use Rattle.number_laws.specs.Tests.{found_below}
use Rattle.sporadic_model.specs.SetDef.{SetDef, task_at}
use Rattle.sporadic_model.specs.Users.{count_of, length_of, is_user}
use Rattle.schedule_model.specs.Measures.{greatest_below}
use Rattle.blocking_columns.specs.Columns.{have_one_processor}
use Rattle.blocking_columns.specs.Windows.{jobs_during, requests_during}
use Rattle.indirect_constraints.specs.Rows.{is_beside}
use Rattle.closer_mpcp_laws.specs.CloserMpcpRows.{goes_first}

-- For how many ticks may a request of x last that goes first on x's processor while another task there holds q? 0 if there is none.
abbrev pub longest_first : SetDef → ℕ → ℕ → ℕ
longest_first set x q = greatest_below (length set.resources) (λ r. only_if (goes_first set x r q) (length_of set x r))

-- May a request of x run in place of y's, which i waits for? It may if x is another task of y's processor, and isn't i.
abbrev pub may_run_instead : SetDef → ℕ → ℕ → ℕ → Bool
may_run_instead set i y x = is_beside set y x && not (x == i)

-- For how many ticks may y hold q while i waits? Its own request runs, and of each such task one request that goes first.
abbrev pub holding_ticks : SetDef → ℕ → ℕ → ℕ → ℕ
holding_ticks set i q y =
    length_of set y q + sum_below (length set.tasks) (λ x. only_if (may_run_instead set i y x) (longest_first set x q))

-- May the lower task y hold q when i issues its request? It may if y uses q, and isn't on i's processor.
abbrev pub may_hold_before : SetDef → ℕ → ℕ → ℕ → Bool
may_hold_before set i q y = nat_lt i y && (is_user set q y && not (have_one_processor set y i))

-- For how many ticks may the longest such holding last? 0 if there is none.
abbrev pub longest_lower_holding : SetDef → ℕ → ℕ → ℕ
longest_lower_holding set i q =
    greatest_below (length set.tasks) (λ y. only_if (may_hold_before set i q y) (holding_ticks set i q y))

-- For how many ticks may the requests of q run that jobs of x make in the w ticks from the issue on?
abbrev pub own_ticks : SetDef → (ℕ → ℕ) → ℕ → ℕ → ℕ → ℕ
own_ticks set bounds q w x = jobs_during set bounds w x * (count_of set x q * length_of set x q)

-- How often may jobs of higher tasks hold q in these ticks so that x may run instead?
abbrev pub holdings_beside : SetDef → (ℕ → ℕ) → ℕ → ℕ → ℕ → ℕ → ℕ
holdings_beside set bounds i q w x = sum_below i (λ y. only_if (may_run_instead set i y x) (requests_during set bounds w y q))

-- For how many ticks may all requests of one job of x last that go first?
abbrev pub time_first : SetDef → ℕ → ℕ → ℕ
time_first set x q = sum_below (length set.resources) (λ r. only_if (goes_first set x r q) (count_of set x r * length_of set x r))

-- For how many ticks may x run instead of these holders? One request in each such holding, and no more than its jobs make.
abbrev pub ticks_instead : SetDef → (ℕ → ℕ) → ℕ → ℕ → ℕ → ℕ → ℕ
ticks_instead set bounds i q w x =
    min (holdings_beside set bounds i q w x * longest_first set x q) (jobs_during set bounds w x * time_first set x q)

-- For how many ticks may other tasks hold q in all, with the jobs that run in the w ticks from the issue on? A lower task holds it once.
abbrev pub ticks_held : SetDef → (ℕ → ℕ) → ℕ → ℕ → ℕ → ℕ
ticks_held set bounds i q w =
    longest_lower_holding set i q + (sum_below i (own_ticks set bounds q w) + sum_below (length set.tasks) (ticks_instead set bounds i q w))

-- Are w ticks enough: at least one, and as many as q may be held by others?
abbrev pub is_enough_wait : SetDef → (ℕ → ℕ) → ℕ → ℕ → ℕ → Bool
is_enough_wait set bounds i q w = nat_lt 0 w && nat_le (ticks_held set bounds i q w) w

-- The window: the least number of ticks that is enough. None if no number up to i's deadline is enough.
abbrev pub wait_window : SetDef → (ℕ → ℕ) → ℕ → ℕ → Option ℕ
wait_window set bounds i q = found_below (suc (task_at set i).deadline) (is_enough_wait set bounds i q)
