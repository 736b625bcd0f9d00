-- Rows that the closer analysis of MPCP has beside those of MPCP. In each, i is the analysed task.
use Rattle.std.specs.Prelude.{ℕ, ◌+◌, ◌==◌, ◌&&◌, not, nat_lt, Bool, List, [], ◌∷◌, ◌++◌, length}
use Rattle.number_laws.specs.Sums.{sum_below, only_if}
use Rattle.number_laws.specs.Tests.{any_below}
use Rattle.sporadic_model.specs.SetDef.{SetDef, task_at}
use Rattle.sporadic_model.specs.Users.{count_of, is_user}
use Rattle.sporadic_model.specs.declared.ids.Protocol.TheVariants as protocol
use Rattle.blocking_columns.specs.declared.columns.Class.TheVariants.{Direct, Indirect, Preemption}
use Rattle.blocking_columns.specs.ColumnDef.{is_class}
use Rattle.blocking_columns.specs.Columns.{have_one_processor, is_lower_local, may_run_before}
use Rattle.blocking_columns.specs.Windows.{requests_by_higher}
use Rattle.fragments.specs.Constraints.{ConstraintDef, counting, per, per_where, per_pair}
use Rattle.indirect_constraints.specs.Rows.{lower_holdings}
use Rattle.closer_laws.specs.CloserRows.{is_shared_out, is_held_there, requests_where, local_preemption_row}

-- Lower waits: a job never waits for a lower task of its processor.
abbrev pub lower_wait_row : SetDef → ℕ → ConstraintDef
lower_wait_row set i = counting (λ c. is_class Direct c.class && is_lower_local set i c.task) (λ bounds. 0)

-- Shared intervals: from its release on and behind each of its requests that is shared out, a job of i is preempted by at most one request
-- of x.
abbrev pub shared_interval_row : SetDef → ℕ → ℕ → ConstraintDef
shared_interval_row set i x = counting (λ c. (c.task == x) && is_class Preemption c.class)
    (λ bounds. 1 + requests_where set i (is_shared_out set i))

-- May x run a request of q on its processor while another task is ready there that holds r? Where q's ceiling, as that processor sees it,
-- is no lower than r's.
abbrev pub goes_first : SetDef → ℕ → ℕ → ℕ → Bool
goes_first set x q r = not (q == r) && may_run_before protocol.Mpcp set (task_at set x).processor q r

-- May it run one of its own so?
abbrev pub goes_before : SetDef → ℕ → ℕ → Bool
goes_before set x r = any_below (length set.resources) (λ q. is_user set q x && goes_first set x q r)

-- How many requests of resources that pass, and that are shared out, can other tasks hold on x's processor while i waits for them? Higher
-- tasks hold this many of each, and lower ones as many as in the row of holdings; but on i's own processor no lower task holds one.
abbrev pub shared_holdings : SetDef → (ℕ → ℕ) → ℕ → ℕ → (ℕ → Bool) → ℕ
shared_holdings set higher i x passes = sum_below (length set.resources)
    (λ r. only_if (is_user set r i && (is_shared_out set i r && passes r))
    (higher r + only_if (not (have_one_processor set x i)) (lower_holdings set i x r)))

-- In the next rows held tells, at bounds, how many requests of a resource higher tasks can hold beside a task.

-- Shared holdings: in each such holding before which x may run a request, x runs at most one.
abbrev pub shared_holding_row : SetDef → ((ℕ → ℕ) → ℕ → ℕ → ℕ) → ℕ → ℕ → ConstraintDef
shared_holding_row set held i x = counting (λ c. (c.task == x) && is_class Indirect c.class)
    (λ bounds. shared_holdings set (held bounds x) i x (goes_before set x))

-- Holdings by resource: in each such holding before which x may run a request of q, x runs at most one of q.
abbrev pub resource_holding_row : SetDef → ((ℕ → ℕ) → ℕ → ℕ → ℕ) → ℕ → ℕ → ℕ → ConstraintDef
resource_holding_row set held i x q = counting (λ c. ((c.task == x) && (c.resource == q)) && is_class Indirect c.class)
    (λ bounds. shared_holdings set (held bounds x) i x (goes_first set x q))

-- Is y on another processor than x?
abbrev pub is_away : SetDef → ℕ → ℕ → Bool
is_away set x y = not (have_one_processor set y x)

-- Does a lower task that is on another processor than x and i use r?
abbrev pub has_lower_away : SetDef → ℕ → ℕ → ℕ → Bool
has_lower_away set i x r = any_below (length set.tasks) (λ y. nat_lt i y && ((is_away set x y && is_away set i y) && is_user set r y))

-- How many requests of r can be held away from x's processor while i waits for r? Higher tasks each hold as many as they make while a job of
-- i runs, and lower ones together one for each request of i.
abbrev pub away_holdings : SetDef → (ℕ → ℕ) → ℕ → ℕ → ℕ → ℕ
away_holdings set bounds i x r =
    requests_by_higher set bounds i (is_away set x) r + only_if (has_lower_away set i x r) (count_of set i r)

-- Away holdings: while i waits for a request that is held on x's processor, x runs at most one request, and one more for each time that it is
-- held away from there before.
abbrev pub away_row : SetDef → ℕ → ℕ → ConstraintDef
away_row set i x = counting (λ c. (c.task == x) && not (is_class Preemption c.class))
    (λ bounds. sum_below (length set.resources)
    (λ r. only_if (is_user set r i && is_held_there set i x r) (count_of set i r + away_holdings set bounds i x r)))

-- All of these in their order, with the row of local preemption among them.
abbrev pub further_rows : SetDef → ((ℕ → ℕ) → ℕ → ℕ → ℕ) → ℕ → List ConstraintDef
further_rows set held i = per (length set.tasks) (shared_holding_row set held i)
    ++ (per_pair (length set.tasks) (length set.resources) (resource_holding_row set held i)
    ++ (per (length set.tasks) (away_row set i)
    ++ (per_where (is_lower_local set i) (length set.tasks) (shared_interval_row set i)
    ++ (local_preemption_row set i ∷ lower_wait_row set i ∷ []))))
