-- No number of a program is large, since the numbers of an accepted set are in their ranges.
use Rattle.std.proofs.Common.{◌≡◌, ℕ, zero, suc, ◌+◌, ◌*◌, ◌<◌, ◌≤◌, Bool, List, length, refl, arith, ◌==◌, ◌&&◌}
use Rattle.std.proofs.Common.{nat_lt, Option, Some, None, inl, inr}
use Rattle.std.specs.Prelude.{slice_index}
use Rattle.std.specs.List.{All}
use Rattle.std.specs.Int.{div_ceil}
use Rattle.std.specs.Option.{option_map_or}
use Rattle.std.specs.Str.{bytes_eq}
use Rattle.std.proofs.lemmas.Bool.{cases_lt}
use Rattle.std.proofs.lemmas.Grind.{div_ceil_times}
use Rattle.std.proofs.Math.Nat.{mul-le-mul_left, mul-le-mul_right}
use Rattle.std.proofs.lemmas.Nat.{mul-le}
use Rattle.number_laws.specs.Sums.{flag, only_if, sum_below}
use Rattle.number_laws.specs.Tests.{any_below}
use Rattle.number_laws.proofs.CountLaws.{flag-at_most}
use Rattle.number_laws.proofs.SumLaws.{only_if-at_most}
use Rattle.sporadic_model.specs.SetDef.{SetDef, RequestDef, task_at, resource_at}
use Rattle.sporadic_model.specs.Users.{count_of, length_of, entry_of, is_user}
use Rattle.sporadic_model.specs.Accepted.{IsAccepted}
use Rattle.sporadic_model.specs.Homes.{home_in}
use Rattle.sporadic_model.specs.declared.ids.Protocol.{Protocol}
use Rattle.sporadic_model.specs.Bounds.{AreWithinDeadlines}
use Rattle.sporadic_model.proofs.Laws.{numbers_of_accepted, sizes_of_accepted, entry_of_accepted}
use Rattle.blocking_columns.specs.ColumnDef.{ColumnDef}
use Rattle.blocking_columns.specs.Windows.{jobs_in, requests_in, all_requests}
use Rattle.direct_constraints.specs.Rows.{request_row, time_row, turn_row, common_rows}
use Rattle.preempt_constraints.specs.Rows.{interval_row, preemption_rows}
use Rattle.indirect_constraints.specs.Rows.{is_beside, higher_holdings, lower_holdings, holdings}
use Rattle.program_laws.proofs.Lists.{sum_at_most}
use Rattle.program_laws.specs.Written.{IsSmallRow}
use Rattle.program_laws.proofs.RowKinds.{EachKind, common_each, preemption_each}

pub div_ceil_at_most : (a n : ℕ) → 0 < n → div_ceil a n ≤ a
div_ceil_at_most a zero h = absurd (omega arith)
div_ceil_at_most a (suc n) h =
    let times = div_ceil_times a (suc n) (omega arith) in
    elim (cases_lt a (div_ceil a (suc n))) [
      | inl more ↦
          let most : (a + 1) * suc n ≤ div_ceil a (suc n) * suc n = mul-le-mul_right (suc n) (omega arith) in
          let least : a * 1 ≤ a * suc n = mul-le-mul_left a (omega arith) in
          absurd (omega (arith, times.0, times.1, most, least))
      | inr fits ↦ fits
    ]

pub option_at_most : (o : Option RequestDef) (f : RequestDef → ℕ) (m : ℕ) → ((e : RequestDef) → o ≡ Some e → f e ≤ m) → option_map_or f o 0 ≤ m
option_at_most None f m h = omega arith
option_at_most (Some e) f m h = h e refl

pub count_small : (set : SetDef) (x q : ℕ) → IsAccepted set → x < length set.tasks → count_of set x q ≤ 1000
count_small set x q accepted here = option_at_most (entry_of set x q) (λ e. e.count) 1000 (λ e same.
    (entry_of_accepted set x (λ e. bytes_eq e.resource (resource_at set q).name) e accepted here same).count_to)

pub length_small : (set : SetDef) (x q : ℕ) → IsAccepted set → x < length set.tasks → length_of set x q ≤ 1000000000
length_small set x q accepted here = option_at_most (entry_of set x q) (λ e. e.length) 1000000000 (λ e same.
    let below = (entry_of_accepted set x (λ e. bytes_eq e.resource (resource_at set q).name) e accepted here same).length_to in
    let numbers = numbers_of_accepted set x accepted here in
    omega (arith, below, numbers.cost_to, numbers.deadline_to, numbers.period_to))

-- A bound within the deadlines is at most the greatest number of ticks.
pub bound_small : (set : SetDef) (r : List ℕ) (x : ℕ) → IsAccepted set → AreWithinDeadlines set r → x < length set.tasks
    → slice_index r x ≤ 1000000000
bound_small set r x accepted within here =
    let numbers = numbers_of_accepted set x accepted here in
    omega (arith, within.to_latest x here, numbers.deadline_to, numbers.period_to)

-- A bound and the task's jitter together are too.
pub late_bound_small : (set : SetDef) (r : List ℕ) (x : ℕ) → IsAccepted set → AreWithinDeadlines set r → x < length set.tasks
    → slice_index r x + (task_at set x).jitter ≤ 1000000000
late_bound_small set r x accepted within here =
    let numbers = numbers_of_accepted set x accepted here in
    omega (arith, within.to_latest x here, numbers.jitter_to, numbers.deadline_to, numbers.period_to)

pub jobs_small : (set : SetDef) (r : List ℕ) (i x : ℕ) → IsAccepted set → AreWithinDeadlines set r → i < length set.tasks → x < length set.tasks
    → jobs_in set (slice_index r) i x ≤ 2000000000
jobs_small set r i x accepted within here there =
    let numbers = numbers_of_accepted set x accepted there in
    let jobs = div_ceil_at_most (slice_index r i + (slice_index r x + (task_at set x).jitter)) (task_at set x).period
    (omega (arith, numbers.cost_from, numbers.cost_to, numbers.deadline_to)) in
    omega (arith, jobs, bound_small set r i accepted within here, late_bound_small set r x accepted within there)

pub requests_small : (set : SetDef) (r : List ℕ) (i x q : ℕ) → IsAccepted set → AreWithinDeadlines set r
    → i < length set.tasks → x < length set.tasks
    → requests_in set (slice_index r) i x q ≤ 2000000000000
requests_small set r i x q accepted within here there =
    mul-le (count_of set x q) (jobs_in set (slice_index r) i x) 1000 2000000000
    (count_small set x q accepted there) (jobs_small set r i x accepted within here there)

pub time_small : (set : SetDef) (r : List ℕ) (i x : ℕ) → IsAccepted set → AreWithinDeadlines set r → i < length set.tasks → x < length set.tasks
    → (task_at set x).cost * jobs_in set (slice_index r) i x ≤ 2000000000000000000
time_small set r i x accepted within here there =
    let numbers = numbers_of_accepted set x accepted there in
    mul-le (task_at set x).cost (jobs_in set (slice_index r) i x) 1000000000 2000000000
    (omega (arith, numbers.cost_to, numbers.deadline_to, numbers.period_to))
    (jobs_small set r i x accepted within here there)

pub all_small : (set : SetDef) (i : ℕ) → IsAccepted set → i < length set.tasks → all_requests set i ≤ 32000
all_small set i accepted here =
    let sizes = sizes_of_accepted set accepted in
    let sum = sum_at_most (length set.resources) 1000 (λ q. count_of set i q) (λ q l. count_small set i q accepted here) in
    omega (arith, sum, sizes.resources_to)

pub home_small : (set : SetDef) (i : ℕ) (at : ℕ → Bool) → IsAccepted set → i < length set.tasks
    → sum_below (length set.resources) (λ q. only_if (at q) (count_of set i q)) ≤ 32000
home_small set i at accepted here =
    let sizes = sizes_of_accepted set accepted in
    let sum = sum_at_most (length set.resources) 1000 (λ q. only_if (at q) (count_of set i q)) (λ q l.
    omega (arith, only_if-at_most (at q) (count_of set i q), count_small set i q accepted here)) in
    omega (arith, sum, sizes.resources_to)

pub higher_small : (set : SetDef) (r : List ℕ) (i x q : ℕ) → IsAccepted set → AreWithinDeadlines set r → i < length set.tasks
    → higher_holdings set (slice_index r) i x q ≤ 128000000000000
higher_small set r i x q accepted within here =
    let sizes = sizes_of_accepted set accepted in
    let sum = sum_at_most i 2000000000000 (λ y. only_if (is_beside set x y) (requests_in set (slice_index r) i y q)) (λ y l.
    omega (
      arith,
      only_if-at_most (is_beside set x y) (requests_in set (slice_index r) i y q),
      requests_small set r i y q accepted within here (omega arith),
    )) in
    omega (arith, sum, sizes.tasks_to)

pub only_if_small : (b : Bool) (n m : ℕ) → n ≤ m → only_if b n ≤ m
only_if_small b n m h = omega (arith, only_if-at_most b n)

pub lower_small : (set : SetDef) (i x q : ℕ) → IsAccepted set → i < length set.tasks → lower_holdings set i x q ≤ 1000
lower_small set i x q accepted here =
    only_if_small (any_below (length set.tasks) (λ y. nat_lt i y && (is_beside set x y && is_user set q y)))
    (count_of set i q) 1000 (count_small set i q accepted here)

pub holdings_small : (set : SetDef) (r : List ℕ) (i x : ℕ) → IsAccepted set → AreWithinDeadlines set r → i < length set.tasks
    → holdings set (slice_index r) i x ≤ 4096000000032000
holdings_small set r i x accepted within here =
    let sizes = sizes_of_accepted set accepted in
    let sum = sum_at_most (length set.resources) 128000000001000
    (λ q. only_if (is_user set q i) (higher_holdings set (slice_index r) i x q + lower_holdings set i x q)) (λ q l.
    omega (
      arith,
      only_if-at_most (is_user set q i) (higher_holdings set (slice_index r) i x q + lower_holdings set i x q),
      higher_small set r i x q accepted within here,
      lower_small set i x q accepted here,
    )) in
    omega (arith, sum, sizes.resources_to)

pub flag_small : (b : Bool) → flag b ≤ 9223372036854775807
flag_small b = omega (arith, flag-at_most b)

-- A row of flags is small if its limit is.
pub small_flags : (r : List ℕ) (test : ColumnDef → Bool) (limit : (ℕ → ℕ) → ℕ) → limit (slice_index r) ≤ 9223372036854775807
    → IsSmallRow r (record { coefficient = λ c. flag (test c); limit = limit })
small_flags r test limit few = record { coefficients = λ c. flag_small (test c); limit = few }

pub request_row_small : (set : SetDef) (i x q : ℕ) (r : List ℕ) → IsAccepted set → AreWithinDeadlines set r → i < length set.tasks
    → x < length set.tasks → IsSmallRow r (request_row set i x q)
request_row_small set i x q r accepted within here there =
    record { coefficients = λ c. flag_small _; limit = omega (arith, requests_small set r i x q accepted within here there) }

pub time_row_small : (set : SetDef) (i x : ℕ) (r : List ℕ) → IsAccepted set → AreWithinDeadlines set r → i < length set.tasks
    → x < length set.tasks → IsSmallRow r (time_row set i x)
time_row_small set i x r accepted within here there = record {
  coefficients = λ c. omega (
    arith,
    only_if-at_most (c.task == x) (length_of set x c.resource),
    length_small set x c.resource accepted there,
  );
  limit = omega (arith, time_small set r i x accepted within here there);
}

pub interval_row_small : (set : SetDef) (i x : ℕ) (r : List ℕ) → IsAccepted set → i < length set.tasks → IsSmallRow r (interval_row set i x)
interval_row_small set i x r accepted here =
    record { coefficients = λ c. flag_small _; limit = omega (arith, all_small set i accepted here) }

pub turn_row_small : (set : SetDef) (i x q : ℕ) (r : List ℕ) → IsAccepted set → i < length set.tasks → IsSmallRow r (turn_row set i x q)
turn_row_small set i x q r accepted here =
    record { coefficients = λ c. flag_small _; limit = omega (arith, count_small set i q accepted here) }

-- The rows that every protocol has are small.
pub common_small : (set : SetDef) (i : ℕ) (r : List ℕ) → IsAccepted set → AreWithinDeadlines set r → i < length set.tasks
    → All (IsSmallRow r) (common_rows set i)
common_small set i r accepted within here =
    common_each (IsSmallRow r) set i (λ x q a b. request_row_small set i x q r accepted within here a)
    (λ x a. time_row_small set i x r accepted within here a)

pub preemption_small : (set : SetDef) (i : ℕ) (r : List ℕ) → IsAccepted set → i < length set.tasks
    → All (IsSmallRow r) (preemption_rows set i)
preemption_small set i r accepted here = preemption_each (IsSmallRow r) set i (λ x a local. interval_row_small set i x r accepted here)

pub rows_small : (p : Protocol) (set : SetDef) (i : ℕ) (r : List ℕ) → IsAccepted set → AreWithinDeadlines set r
    → i < length set.tasks → EachKind (IsSmallRow r) p set i
rows_small p set i r accepted within here = record {
  request = λ x q a b. request_row_small set i x q r accepted within here a;
  time = λ x a. time_row_small set i x r accepted within here a;
  interval = λ x a local. interval_row_small set i x r accepted here;
  turn = λ e x q a b. turn_row_small set i x q r accepted here;
  queue = λ e x a. record { coefficients = λ c. flag_small _; limit = omega (arith, all_small set i accepted here) };
  lower_holder = λ e q b. record { coefficients = λ c. flag_small _; limit = omega (arith, count_small set i q accepted here) };
  holding = λ e x a. record { coefficients = λ c. flag_small _; limit = omega (arith, holdings_small set r i x accepted within here) };
  home = λ e k b. record {
    coefficients = λ c. flag_small _;
    limit = omega (arith, home_small set i (λ q. home_in set q == (k + 1)) accepted here);
  };
}
