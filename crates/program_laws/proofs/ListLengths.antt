-- How many columns and rows a program has at most.
use Rattle.std.proofs.Common.{◌≡◌, ℕ, zero, suc, ◌+◌, ◌*◌, ◌≤◌, Bool, true, false, [], ◌∷◌, ◌++◌, length, arith, if◌then◌else◌}
use Rattle.std.proofs.lemmas.List.{length-append}
use Rattle.std.proofs.Math.Nat.{mul-le-mul_right}
use Rattle.sporadic_model.specs.SetDef.{SetDef}
use Rattle.sporadic_model.specs.Accepted.{IsAccepted}
use Rattle.sporadic_model.specs.declared.ids.Protocol.{Protocol}
use Rattle.sporadic_model.specs.declared.ids.Protocol.TheVariants as protocol
use Rattle.sporadic_model.proofs.Laws.{sizes_of_accepted}
use Rattle.number_laws.specs.Sums.{collect_below}
use Rattle.blocking_columns.specs.ColumnDef.{ColumnDef, all_columns, classes_of}
use Rattle.blocking_columns.specs.Columns.{columns_where, is_lower_local}
use Rattle.fragments.specs.Constraints.{ConstraintDef, per, per_pair, per_where}
use Rattle.direct_constraints.specs.Rows.{request_row, time_row, turn_row, lower_holder_row, common_rows}
use Rattle.preempt_constraints.specs.Rows.{interval_row, preemption_rows}
use Rattle.indirect_constraints.specs.Rows.{queue_row, holding_row, home_row}
use Rattle.program_laws.specs.Programs.{protocol_rows, rows_of}
use Rattle.program_laws.proofs.Lists.{filter_shorter, collected_at_most}

-- The tasks, resources and processors of an accepted set, and pairs of the first two.
pub record Few (set : SetDef) : Type 0 where
  pub tasks : length set.tasks ≤ 64
  pub resources : length set.resources ≤ 32
  pub processors : set.processors ≤ 64
  pub pairs : length set.tasks * length set.resources ≤ 2048

pub few : (set : SetDef) → IsAccepted set → Few set
few set accepted =
    let sizes = sizes_of_accepted set accepted in
    let left : length set.tasks * length set.resources ≤ 64 * length set.resources =
    mul-le-mul_right (length set.resources) sizes.tasks_to in
    record {
      tasks = sizes.tasks_to;
      resources = sizes.resources_to;
      processors = sizes.processors_to;
      pairs = omega (arith, left, sizes.resources_to);
    }

pub all_columns_at_most : (n m : ℕ) → length (all_columns n m) ≤ n * (m * 3)
all_columns_at_most n m = collected_at_most n (m * 3) (λ x. collect_below m (λ q. classes_of x q)) (λ x l.
    collected_at_most m 3 (λ q. classes_of x q) (λ q k. omega arith))

triple_times : (n m : ℕ) → n * (m * 3) ≡ n * m * 3
triple_times zero m = omega arith
triple_times (suc n) m = omega (arith, triple_times n m)

triples : (n m : ℕ) → n * m ≤ 2048 → n * (m * 3) ≤ 6144
triples n m h = omega (arith, h, triple_times n m)

-- The same for the columns that pass a test.
pub passing_few : (test : ColumnDef → Bool) (set : SetDef) → IsAccepted set → length (columns_where test set) ≤ 6144
passing_few test set accepted =
    let n = length set.tasks in
    let m = length set.resources in
    omega (arith, filter_shorter test (all_columns n m), all_columns_at_most n m, triples n m (few set accepted).pairs)

pub per_at_most : (n : ℕ) (row : ℕ → ConstraintDef) → length (per n row) ≤ n
per_at_most n row = omega (arith, collected_at_most n 1 (λ k. row k ∷ []) (λ k l. omega arith))

pub pair_at_most : (m n : ℕ) (row : ℕ → ℕ → ConstraintDef) → length (per_pair m n row) ≤ m * n
pair_at_most m n row = collected_at_most m n (λ x. per n (row x)) (λ x l. per_at_most n (row x))

if_at_most : (b : Bool) (row : ConstraintDef) → length (if b then row ∷ [] else []) ≤ 1
if_at_most true row = omega arith
if_at_most false row = omega arith

pub where_at_most : (test : ℕ → Bool) (n : ℕ) (row : ℕ → ConstraintDef) → length (per_where test n row) ≤ n
where_at_most test n row =
    omega (arith, collected_at_most n 1 (λ k. if test k then row k ∷ [] else []) (λ k l. if_at_most (test k) (row k)))

protocol_few : (p : Protocol) (set : SetDef) (i : ℕ) → Few set → length (protocol_rows p set i) ≤ 2112
protocol_few protocol.FmlpPlus set i f = omega (
  arith,
  length-append (per_pair (length set.tasks) (length set.resources) (turn_row set i)) (per (length set.tasks) (queue_row set i)),
  pair_at_most (length set.tasks) (length set.resources) (turn_row set i),
  per_at_most (length set.tasks) (queue_row set i),
  f.pairs,
  f.tasks,
)
protocol_few protocol.Mpcp set i f = omega (
  arith,
  length-append (per (length set.resources) (lower_holder_row set i)) (per (length set.tasks) (holding_row set i)),
  per_at_most (length set.resources) (lower_holder_row set i),
  per_at_most (length set.tasks) (holding_row set i),
  f.resources,
  f.tasks,
)
protocol_few protocol.Dpcp set i f = omega (arith, per_at_most set.processors (λ k. home_row set i (k + 1)), f.processors)

pub common_few : (set : SetDef) (i : ℕ) → Few set → length (common_rows set i) ≤ 2112
common_few set i f =
    let pairs = per_pair (length set.tasks) (length set.resources) (request_row set i) in
    let times = per (length set.tasks) (time_row set i) in
    rw (length-append pairs times) (omega (
      arith,
      pair_at_most (length set.tasks) (length set.resources) (request_row set i),
      per_at_most (length set.tasks) (time_row set i),
      f.pairs,
      f.tasks,
    ))

pub rows_few : (p : Protocol) (set : SetDef) (i : ℕ) → IsAccepted set → length (rows_of p set i) ≤ 4288
rows_few p set i accepted =
    let f = few set accepted in
    omega (
      arith,
      length-append (common_rows set i) (preemption_rows set i ++ protocol_rows p set i),
      length-append (preemption_rows set i) (protocol_rows p set i),
      common_few set i f,
      where_at_most (is_lower_local set i) (length set.tasks) (interval_row set i),
      f.tasks,
      protocol_few p set i f,
    )
