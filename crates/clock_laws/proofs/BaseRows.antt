-- The rows of MPCP, FMLP+ and DPCP in cycles beside those in ticks, and with them whole programs.
use Rattle.std.proofs.Common.{◌≡◌, ◌∙◌, ℕ, ◌+◌, ◌*◌, ◌<◌, ◌==◌, ◌&&◌, not, nat_lt, List, ◌++◌, length, refl, arith}
use Rattle.std.specs.Prelude.{slice_index}
use Rattle.number_laws.specs.Sums.{sum_below, only_if}
use Rattle.number_laws.specs.Tests.{any_below}
use Rattle.sporadic_model.specs.SetDef.{SetDef, task_at}
use Rattle.sporadic_model.specs.Users.{length_of}
use Rattle.sporadic_model.specs.Homes.{home_in}
use Rattle.sporadic_model.specs.declared.ids.Protocol.{Protocol}
use Rattle.sporadic_model.specs.declared.ids.Protocol.TheVariants as protocol
use Rattle.blocking_columns.specs.declared.columns.Class.TheVariants.{Direct, Indirect, Preemption}
use Rattle.blocking_columns.specs.ColumnDef.{is_class}
use Rattle.blocking_columns.specs.Columns.{is_lower_local, columns_of}
use Rattle.blocking_columns.specs.Windows.{jobs_during}
use Rattle.fragments.specs.Constraints.{per, per_pair}
use Rattle.direct_constraints.specs.Rows.{request_row, time_row, turn_row, lower_holder_row, common_rows}
use Rattle.preempt_constraints.specs.Rows.{interval_row, preemption_rows}
use Rattle.indirect_constraints.specs.Rows.{queue_row, is_beside, lower_holdings, holdings, holding_row, home_row}
use Rattle.program_laws.specs.Programs.{protocol_rows, rows_of, source_of}
use Rattle.clock_laws.specs.Cycles.{in_cycles, times_each}
use Rattle.clock_laws.proofs.Scaled.{only_times}
use Rattle.clock_laws.proofs.Sets.{tasks_in, cost_in, count_in, length_in, users_in, one_processor_in, lower_in}
use Rattle.clock_laws.proofs.Columns.{columns_scaled}
use Rattle.clock_laws.proofs.Jobs.{fine, jobs_in_cycles, requests_in_cycles, higher_requests_in, all_requests_in, requests_at_in}
use Rattle.clock_laws.proofs.Rescaled.{IsRescaledRow, counted_same, timed, AreRescaled, appended, each_per, each_pair, each_where}
use Rattle.clock_laws.proofs.Programs.{IsRescaled, programs_rescaled}

request_in : (k : ℕ) (set : SetDef) (bounds : ℕ → ℕ) (i x q : ℕ) → 0 < k
    → IsRescaledRow k bounds (request_row set i x q) (request_row (in_cycles k set) i x q)
request_in k set bounds i x q some = counted_same k bounds (λ c. (c.task == x) && (c.resource == q))
    (λ c. (c.task == x) && (c.resource == q)) _ _ some refl (requests_in_cycles k set bounds (bounds i) x q some)

time_in : (k : ℕ) (set : SetDef) (bounds : ℕ → ℕ) (i x : ℕ) → 0 < k
    → IsRescaledRow k bounds (time_row set i x) (time_row (in_cycles k set) i x)
time_in k set bounds i x some = timed k bounds (time_row set i x) (time_row (in_cycles k set) i x)
    (λ c. (λ j. only_if (c.task == x) (length_in k set x c.resource j)) ∙ only_times (c.task == x) k (length_of set x c.resource))
    ((λ j. cost_in k set x j * jobs_in_cycles k set bounds (bounds i) x some j)
    ∙ apart (task_at set x).cost (jobs_during set bounds (bounds i) x)) where
      apart : (m n : ℕ) → k * m * n ≡ k * (m * n)
      apart m n = omega arith

pub common_in : (k : ℕ) (set : SetDef) (bounds : ℕ → ℕ) (i : ℕ) → 0 < k
    → AreRescaled k bounds (common_rows set i) (common_rows (in_cycles k set) i)
common_in k set bounds i some = appended k bounds (per_pair (length set.tasks) (length set.resources) (request_row set i))
    (per_pair (length (in_cycles k set).tasks) (length set.resources) (request_row (in_cycles k set) i))
    (per (length set.tasks) (time_row set i)) (per (length (in_cycles k set).tasks) (time_row (in_cycles k set) i))
    (each_pair k bounds (length set.tasks) (length (in_cycles k set).tasks) (length set.resources) (request_row set i)
    (request_row (in_cycles k set) i) (tasks_in k set) (λ x q a b. request_in k set bounds i x q some))
    (each_per k bounds (length set.tasks) (length (in_cycles k set).tasks) (time_row set i) (time_row (in_cycles k set) i) (tasks_in k set)
    (λ x a. time_in k set bounds i x some))

pub preemption_in : (k : ℕ) (set : SetDef) (bounds : ℕ → ℕ) (i : ℕ) → 0 < k
    → AreRescaled k bounds (preemption_rows set i) (preemption_rows (in_cycles k set) i)
preemption_in k set bounds i some = each_where k bounds (is_lower_local set i) (is_lower_local (in_cycles k set) i) (length set.tasks)
    (length (in_cycles k set).tasks) (interval_row set i) (interval_row (in_cycles k set) i) (λ j. lower_in k set j i) (tasks_in k set)
    (λ x a. counted_same k bounds (λ c. (c.task == x) && is_class Preemption c.class) (λ c. (c.task == x) && is_class Preemption c.class) _ _
    some refl (λ j. 1 + all_requests_in k set i j))

pub turns_in : (k : ℕ) (set : SetDef) (bounds : ℕ → ℕ) (i : ℕ) → 0 < k
    → AreRescaled k bounds (per_pair (length set.tasks) (length set.resources) (turn_row set i))
    (per_pair (length (in_cycles k set).tasks) (length set.resources) (turn_row (in_cycles k set) i))
turns_in k set bounds i some = each_pair k bounds (length set.tasks) (length (in_cycles k set).tasks) (length set.resources) (turn_row set i)
    (turn_row (in_cycles k set) i) (tasks_in k set) (λ x q a b.
    counted_same k bounds (λ c. ((c.task == x) && (c.resource == q)) && is_class Direct c.class)
    (λ c. ((c.task == x) && (c.resource == q)) && is_class Direct c.class) _ _ some refl (count_in k set i q))

pub beside_in : (k : ℕ) (set : SetDef) → is_beside (in_cycles k set) ≡ is_beside set
beside_in k set = λ j x y. not (y == x) && one_processor_in k set j y x

pub lower_holdings_in : (k : ℕ) (set : SetDef) (i x q : ℕ) → lower_holdings (in_cycles k set) i x q ≡ lower_holdings set i x q
lower_holdings_in k set i x q = λ j. only_if
    (any_below (tasks_in k set j) (λ y. nat_lt i y && (beside_in k set j x y && users_in k set j q y))) (count_in k set i q j)

holdings_in : (k : ℕ) (set : SetDef) (bounds : ℕ → ℕ) (i x : ℕ) → 0 < k
    → holdings (in_cycles k set) (fine k bounds) i x ≡ holdings set bounds i x
holdings_in k set bounds i x some = λ j. sum_below (length set.resources) (λ q. only_if (users_in k set j q i)
    (higher_requests_in k set bounds i (is_beside (in_cycles k set) x) (is_beside set x) q some (λ l. beside_in k set l x) j
    + lower_holdings_in k set i x q j))

pub lower_holders_in : (k : ℕ) (set : SetDef) (bounds : ℕ → ℕ) (i : ℕ) → 0 < k
    → AreRescaled k bounds (per (length set.resources) (lower_holder_row set i))
    (per (length set.resources) (lower_holder_row (in_cycles k set) i))
lower_holders_in k set bounds i some =
    each_per k bounds (length set.resources) (length set.resources) (lower_holder_row set i) (lower_holder_row (in_cycles k set) i) refl
    (λ q b. counted_same k bounds (λ c. ((c.resource == q) && is_class Direct c.class) && nat_lt i c.task)
    (λ c. ((c.resource == q) && is_class Direct c.class) && nat_lt i c.task) _ _ some refl (count_in k set i q))

-- The rows that each protocol has of its own.
protocol_in : (p : Protocol) (k : ℕ) (set : SetDef) (bounds : ℕ → ℕ) (i : ℕ) → 0 < k
    → AreRescaled k bounds (protocol_rows p set i) (protocol_rows p (in_cycles k set) i)
protocol_in protocol.FmlpPlus k set bounds i some = appended k bounds (per_pair (length set.tasks) (length set.resources) (turn_row set i))
    (per_pair (length (in_cycles k set).tasks) (length set.resources) (turn_row (in_cycles k set) i))
    (per (length set.tasks) (queue_row set i)) (per (length (in_cycles k set).tasks) (queue_row (in_cycles k set) i))
    (turns_in k set bounds i some)
    (each_per k bounds (length set.tasks) (length (in_cycles k set).tasks) (queue_row set i) (queue_row (in_cycles k set) i) (tasks_in k set)
    (λ x a. counted_same k bounds (λ c. (c.task == x) && not (is_class Preemption c.class))
    (λ c. (c.task == x) && not (is_class Preemption c.class)) _ _ some refl (all_requests_in k set i)))
protocol_in protocol.Mpcp k set bounds i some = appended k bounds (per (length set.resources) (lower_holder_row set i))
    (per (length set.resources) (lower_holder_row (in_cycles k set) i))
    (per (length set.tasks) (holding_row set i)) (per (length (in_cycles k set).tasks) (holding_row (in_cycles k set) i))
    (lower_holders_in k set bounds i some)
    (each_per k bounds (length set.tasks) (length (in_cycles k set).tasks) (holding_row set i) (holding_row (in_cycles k set) i)
    (tasks_in k set) (λ x a. counted_same k bounds (λ c. (c.task == x) && is_class Indirect c.class)
    (λ c. (c.task == x) && is_class Indirect c.class) _ _ some refl (holdings_in k set bounds i x some)))
protocol_in protocol.Dpcp k set bounds i some = each_per k bounds set.processors set.processors (λ m. home_row set i (m + 1))
    (λ m. home_row (in_cycles k set) i (m + 1)) refl
    (λ m a. counted_same k bounds (λ c. (not (is_class Preemption c.class) && nat_lt i c.task) && (home_in set c.resource == m + 1))
    (λ c. (not (is_class Preemption c.class) && nat_lt i c.task) && (home_in set c.resource == m + 1)) _ _ some refl
    (requests_at_in k set i (m + 1)))

pub rows_in : (p : Protocol) (k : ℕ) (set : SetDef) (bounds : ℕ → ℕ) (i : ℕ) → 0 < k
    → AreRescaled k bounds (rows_of p set i) (rows_of p (in_cycles k set) i)
rows_in p k set bounds i some = appended k bounds (common_rows set i) (common_rows (in_cycles k set) i)
    (preemption_rows set i ++ protocol_rows p set i) (preemption_rows (in_cycles k set) i ++ protocol_rows p (in_cycles k set) i)
    (common_in k set bounds i some)
    (appended k bounds (preemption_rows set i) (preemption_rows (in_cycles k set) i) (protocol_rows p set i)
    (protocol_rows p (in_cycles k set) i) (preemption_in k set bounds i some) (protocol_in p k set bounds i some))

pub base_rescaled : (p : Protocol) (k : ℕ) (set : SetDef) (bounds : List ℕ) (i : ℕ) → 0 < k
    → IsRescaled k ((source_of p set).program i bounds) ((source_of p (in_cycles k set)).program i (times_each k bounds))
base_rescaled p k set bounds i some = programs_rescaled k set bounds (columns_of p set i) (columns_of p (in_cycles k set) i) (rows_of p set i)
    (rows_of p (in_cycles k set) i) some (columns_scaled p k set i) (rows_in p k set (slice_index bounds) i some)
