-- The rows of indirect blocking. Each protocol has a kind of its own. In each row, i is the analysed task.
use Rattle.std.specs.Prelude.{ℕ, ◌+◌, ◌==◌, ◌&&◌, not, nat_lt, Bool, List, length}
use Rattle.number_laws.specs.Sums.{only_if, sum_below}
use Rattle.number_laws.specs.Tests.{any_below}
use Rattle.sporadic_model.specs.SetDef.{SetDef}
use Rattle.sporadic_model.specs.Users.{count_of, is_user}
use Rattle.sporadic_model.specs.declared.ids.Protocol.{Protocol}
use Rattle.sporadic_model.specs.declared.ids.Protocol.TheVariants as protocol
use Rattle.sporadic_model.specs.Homes.{home_in}
use Rattle.blocking_columns.specs.declared.columns.Class.TheVariants.{Indirect, Preemption}
use Rattle.blocking_columns.specs.ColumnDef.{is_class}
use Rattle.blocking_columns.specs.Columns.{have_one_processor}
use Rattle.blocking_columns.specs.Windows.{requests_by_higher, all_requests, requests_at}
use Rattle.fragments.specs.Constraints.{ConstraintDef, counting, per}

-- Queues: if requests are served in the order of issue, each request of i waits for at most one request of x, of any resource.
abbrev pub queue_row : SetDef → ℕ → ℕ → ConstraintDef
queue_row set i x = counting (λ c. (c.task == x) && not (is_class Preemption c.class)) (λ bounds. all_requests set i)

-- Is y another task on x's processor?
abbrev pub is_beside : SetDef → ℕ → ℕ → Bool
is_beside set x y = not (y == x) && have_one_processor set y x

-- How many requests of q can lower tasks beside x hold while i waits? One for each request of q by i, if one of them uses q.
abbrev pub lower_holdings : SetDef → ℕ → ℕ → ℕ → ℕ
lower_holdings set i x q = only_if
    (any_below (length set.tasks) (λ y. nat_lt i y && (is_beside set x y && is_user set q y))) (count_of set i q)

-- How many requests that i may wait for can other tasks hold on x's processor? Each higher task counts with all that it makes while a job
-- of i runs.
abbrev pub holdings : SetDef → (ℕ → ℕ) → ℕ → ℕ → ℕ
holdings set bounds i x = sum_below (length set.resources)
    (λ q. only_if (is_user set q i) (requests_by_higher set bounds i (is_beside set x) q + lower_holdings set i x q))

-- What the higher tasks make of q. Contracts use this name.
abbrev pub higher_holdings : SetDef → (ℕ → ℕ) → ℕ → ℕ → ℕ → ℕ
higher_holdings set bounds i x q = requests_by_higher set bounds i (is_beside set x) q

-- Holdings: while another task of x's processor holds a resource that i waits for, x runs at most one request.
abbrev pub holding_row : SetDef → ℕ → ℕ → ConstraintDef
holding_row set i x = counting (λ c. (c.task == x) && is_class Indirect c.class) (λ bounds. holdings set bounds i x)

-- Homes: each request of i that runs on processor k waits for at most one request of a lower task there.
abbrev pub home_row : SetDef → ℕ → ℕ → ConstraintDef
home_row set i k = counting
    (λ c. (not (is_class Preemption c.class) && nat_lt i c.task) && (home_in set c.resource == k)) (λ bounds. requests_at set i k)

-- Queues and holdings for each task, and homes for each processor. Processors are numbered from 1.
abbrev pub indirect_rows : Protocol → SetDef → ℕ → List ConstraintDef
indirect_rows protocol.FmlpPlus set i = per (length set.tasks) (queue_row set i)
indirect_rows protocol.Mpcp set i = per (length set.tasks) (holding_row set i)
indirect_rows protocol.Dpcp set i = per set.processors (λ k. home_row set i (k + 1))
