-- Tables of numbers of tasks, the sums of these by processor, and the holdings of all tasks. In each, i is the analysed task.
use Rattle.std.specs.Prelude.{◌≡◌, ℕ, ◌+◌, ◌<◌, ◌≤◌, ◌==◌, ◌&&◌, nat_lt, List, length, slice_index}
use Rattle.number_laws.specs.Sums.{only_if, flag, sum_below}
use Rattle.sporadic_model.specs.SetDef.{SetDef, task_at}
use Rattle.sporadic_model.specs.Users.{count_of, is_user}
use Rattle.blocking_columns.specs.Windows.{requests_in}
use Rattle.indirect_constraints.specs.Rows.{holdings}

-- Has the table n numbers, none of them greater than this?
pub record AreAtMost (n greatest : ℕ) (table : List ℕ) : Type 0 where
  pub size : length table ≡ n
  pub each : (k : ℕ) → k < n → slice_index table k ≤ greatest

-- Has it n numbers after a change, each raised by what f gives it?
pub record AreRaised (n : ℕ) (f : ℕ → ℕ) (before after : List ℕ) : Type 0 where
  pub size : length after ≡ n
  pub each : (k : ℕ) → k < n → slice_index after k ≡ slice_index before k + f k

-- Has each task a number? And are those of tasks higher than i no greater than this?
pub record HigherAreAtMost (set : SetDef) (i greatest : ℕ) (numbers : List ℕ) : Type 0 where
  pub one_each : length numbers ≡ length set.tasks
  pub each : (y : ℕ) → y < i → slice_index numbers y ≤ greatest

-- The sum of the numbers that f gives the tasks of processor k, over the tasks below n.
abbrev pub sum_on : SetDef → (ℕ → ℕ) → ℕ → ℕ → ℕ
sum_on set f n k = sum_below n (λ y. only_if ((task_at set y).processor == k) (f y))

-- Is each entry the sum of the numbers that f gives the tasks of its processor, over the tasks below n? Processors are numbered from 1.
pub record AreSums (set : SetDef) (f : ℕ → ℕ) (n : ℕ) (sums : List ℕ) : Type 0 where
  pub one_each : length sums ≡ set.processors + 1
  pub each : (k : ℕ) → k ≤ set.processors → slice_index sums k ≡ sum_on set f n k
  pub most : (k : ℕ) → k ≤ set.processors → slice_index sums k ≤ 4096000000000000

-- 1 if y is a lower task than i that uses q, and else 0.
abbrev pub lower_user : SetDef → ℕ → ℕ → ℕ → ℕ
lower_user set i q y = flag (nat_lt i y && is_user set q y)

-- How many requests of q can lower tasks hold on processor k while i waits? One for each request of q by i, if one of them uses q.
abbrev pub held_on : SetDef → ℕ → ℕ → ℕ → ℕ
held_on set i k q = only_if (nat_lt 0 (sum_on set (lower_user set i q) (length set.tasks) k)) (count_of set i q)

-- How many of these can only x hold, and no other task of its processor? All of them, if it is the only lower task there that uses q.
abbrev pub held_alone : SetDef → ℕ → ℕ → ℕ → ℕ
held_alone set i x q = only_if (is_user set q x) (only_if (nat_lt i x)
    (only_if (sum_on set (lower_user set i q) (length set.tasks) (task_at set x).processor == 1) (count_of set i q)))

-- The sum of the numbers that f gives the resources that i uses.
abbrev pub over_used : SetDef → ℕ → (ℕ → ℕ) → ℕ
over_used set i f = sum_below (length set.resources) (λ q. only_if (is_user set q i) (f q))

-- What lower tasks can hold on processor k, and what only x can hold, of all resources that i uses.
abbrev pub all_held_on : SetDef → ℕ → ℕ → ℕ
all_held_on set i k = over_used set i (held_on set i k)

abbrev pub all_held_alone : SetDef → ℕ → ℕ → ℕ
all_held_alone set i x = over_used set i (held_alone set i x)

-- How many requests of resources that i uses can task y make while a job of i runs? Only the resources below m count.
abbrev pub awaited : SetDef → (ℕ → ℕ) → ℕ → ℕ → ℕ → ℕ
awaited set bounds i m y = sum_below m (λ q. only_if (is_user set q i) (requests_in set bounds i y q))

-- Are the numbers of tasks higher than i raised by how many requests of q each can make while a job of i runs, and no other number?
pub record HasRequestsAdded (set : SetDef) (bounds : ℕ → ℕ) (i q : ℕ) (before after : List ℕ) : Type 0 where
  pub one_each : length after ≡ length set.tasks
  pub each : (y : ℕ) → y < i → slice_index after y ≡ slice_index before y + requests_in set bounds i y q
  pub most : (y : ℕ) → y < i → slice_index after y ≤ slice_index before y + 2000000000000
  pub others : (y : ℕ) → i ≤ y → slice_index after y ≡ slice_index before y

-- Are these, for each task higher than i, how many requests that i may wait for it can make while a job of i runs, and 0 for other tasks?
pub record AreAwaited (set : SetDef) (bounds : ℕ → ℕ) (i : ℕ) (numbers : List ℕ) : Type 0 where
  pub one_each : length numbers ≡ length set.tasks
  pub each : (y : ℕ) → y < i → slice_index numbers y ≡ awaited set bounds i (length set.resources) y
  pub small : (y : ℕ) → y < i → slice_index numbers y ≤ 64000000000000
  pub others : (y : ℕ) → i ≤ y → y < length set.tasks → slice_index numbers y ≡ 0

-- Is q a resource of the set, and the count how often a job of i may request it?
pub record IsCountOf (set : SetDef) (i q count : ℕ) : Type 0 where
  pub resource : q < length set.resources
  pub value : count ≡ count_of set i q
  pub most : count ≤ 1000

-- Has each processor a total, and each task a number?
pub record AreTotalsAndNumbers (set : SetDef) (totals numbers : List ℕ) : Type 0 where
  pub on_processors : length totals ≡ set.processors + 1
  pub of_tasks : length numbers ≡ length set.tasks

-- Have the totals of processors and the numbers of tasks room for more requests that lower tasks hold, after at most `added` to each?
pub record HaveRoomAfter (set : SetDef) (added : ℕ) (totals numbers : List ℕ) : Type 0 where
  pub on_processors : AreAtMost (set.processors + 1) (4096000000000000 + added) totals
  pub of_tasks : AreAtMost (length set.tasks) (64000000000000 + added) numbers

-- Is each task's number a part of its processor's total?
pub record ArePartsOf (set : SetDef) (totals numbers : List ℕ) : Type 0 where
  pub sizes : AreTotalsAndNumbers set totals numbers
  pub part : (x : ℕ) → x < length set.tasks → slice_index numbers x ≤ slice_index totals (task_at set x).processor

-- Is this, for each task, what its processor's total has beside the task's number?
pub record AreTheRest (set : SetDef) (totals numbers rests : List ℕ) : Type 0 where
  pub one_each : length rests ≡ length set.tasks
  pub each : (x : ℕ) → x < length set.tasks → slice_index rests x + slice_index numbers x ≡ slice_index totals (task_at set x).processor

-- Are these, for each task, the holdings of other tasks on its processor?
pub record AreHoldings (set : SetDef) (bounds : ℕ → ℕ) (i : ℕ) (limits : List ℕ) : Type 0 where
  pub one_each : length limits ≡ length set.tasks
  pub each : (x : ℕ) → x < length set.tasks → slice_index limits x ≡ holdings set bounds i x
