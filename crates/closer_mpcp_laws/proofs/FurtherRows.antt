-- What is known of the closer rows of MPCP, however it is counted how many requests higher tasks hold: they rise, are small, and are few.
use Rattle.std.proofs.Common.{◌++◌, ◌≡◌, ℕ, ◌+◌, ◌<◌, ◌≤◌, ◌==◌, ◌&&◌, not, Bool, true, [], ◌∷◌, List, length, arith}
use Rattle.std.specs.List.{All}
use Rattle.std.specs.Prelude.{slice_index}
use Rattle.std.proofs.lemmas.Bool.{and_parts, eqb-true}
use Rattle.std.proofs.lemmas.List.{length-append}
use Rattle.std.proofs.lemmas.List.Elements.{All-append, All-cons, All-nil}
use Rattle.number_laws.specs.Sums.{sum_below, only_if}
use Rattle.number_laws.proofs.SumLaws.{only_if-at_most, sum_below-monotone}
use Rattle.number_laws.proofs.OnlyIfLaws.{only_if-rises}
use Rattle.sporadic_model.specs.SetDef.{SetDef}
use Rattle.sporadic_model.specs.Accepted.{IsAccepted}
use Rattle.sporadic_model.specs.Users.{count_of, is_user}
use Rattle.sporadic_model.specs.declared.ids.Protocol.TheVariants as protocol
use Rattle.sporadic_model.specs.Bounds.{AreWithinDeadlines}
use Rattle.blocking_columns.specs.ColumnDef.{ColumnDef, is_direct, is_indirect, is_preemption}
use Rattle.blocking_columns.specs.Columns.{is_column, columns_of, have_one_processor, is_lower_local}
use Rattle.blocking_columns.specs.Windows.{requests_in, requests_by_higher}
use Rattle.fragments.specs.Constraints.{ConstraintDef, per, per_pair, per_where, holds_some, rows_there}
use Rattle.blocking_columns.proofs.KnownColumns.{columns_are_requests, columns_are_of_others}
use Rattle.indirect_constraints.specs.Rows.{lower_holdings}
use Rattle.program_laws.specs.Written.{IsSmallRow, Rises, HasJobsAtMost}
use Rattle.program_laws.proofs.Lists.{filter_shorter, sum_at_most}
use Rattle.sporadic_model.proofs.Laws.{sizes_of_accepted}
use Rattle.program_laws.proofs.RowKinds.{all_per, all_per_pair, all_per_where}
use Rattle.program_laws.proofs.RisingLimits.{requests_rise}
use Rattle.program_laws.proofs.SmallNumbers.{small_flags, lower_small, count_small, requests_small as requests_in_small}
use Rattle.program_laws.proofs.ListLengths.{Few, per_at_most, pair_at_most, where_at_most}
use Rattle.program_laws.proofs.FewRows.{IsOfTask, IsOfPair, pair_rows_few, task_rows_few, where_rows_few}
use Rattle.program_laws.proofs.PlacedRows.{there_behind}
use Rattle.closer_laws.specs.CloserRows.{is_shared_out, is_held_there, requests_where, local_preemption_row}
use Rattle.closer_laws.proofs.Programs.{requests_small, first_of}
use Rattle.closer_mpcp_laws.specs.CloserMpcpRows.{goes_first, goes_before, shared_holdings, shared_holding_row, resource_holding_row}
use Rattle.closer_mpcp_laws.specs.CloserMpcpRows.{is_away, has_lower_away, away_holdings, away_row}
use Rattle.closer_mpcp_laws.specs.CloserMpcpRows.{lower_wait_row, shared_interval_row, further_rows}

-- Is P true of each kind of closer row?
pub record EachFurther (P : ConstraintDef → Type 0) (set : SetDef) (held : (ℕ → ℕ) → ℕ → ℕ → ℕ) (i : ℕ) : Type 0 where
  pub holding : (x : ℕ) → x < length set.tasks → P (shared_holding_row set held i x)
  pub resource : (x q : ℕ) → x < length set.tasks → q < length set.resources → P (resource_holding_row set held i x q)
  pub away : (x : ℕ) → x < length set.tasks → P (away_row set i x)
  pub interval : (x : ℕ) → x < length set.tasks → is_lower_local set i x ≡ true → P (shared_interval_row set i x)
  pub preemption : P (local_preemption_row set i)
  pub wait : P (lower_wait_row set i)

abbrev holdings_of_tasks : SetDef → ((ℕ → ℕ) → ℕ → ℕ → ℕ) → ℕ → List ConstraintDef
holdings_of_tasks set held i = per (length set.tasks) (shared_holding_row set held i)

abbrev holdings_by_resource : SetDef → ((ℕ → ℕ) → ℕ → ℕ → ℕ) → ℕ → List ConstraintDef
holdings_by_resource set held i = per_pair (length set.tasks) (length set.resources) (resource_holding_row set held i)

abbrev aways : SetDef → ℕ → List ConstraintDef
aways set i = per (length set.tasks) (away_row set i)

abbrev intervals : SetDef → ℕ → List ConstraintDef
intervals set i = per_where (is_lower_local set i) (length set.tasks) (shared_interval_row set i)

abbrev singles : SetDef → ℕ → List ConstraintDef
singles set i = local_preemption_row set i ∷ lower_wait_row set i ∷ []

-- Then it is true of each closer row.
pub further_each : (P : ConstraintDef → Type 0) (set : SetDef) (held : (ℕ → ℕ) → ℕ → ℕ → ℕ) (i : ℕ) → EachFurther P set held i
    → All P (further_rows set held i)
further_each P set held i each =
    All-append P (holdings_of_tasks set held i) (holdings_by_resource set held i ++ (aways set i ++ (intervals set i ++ singles set i)))
    (all_per P (length set.tasks) (shared_holding_row set held i) each.holding)
    (All-append P (holdings_by_resource set held i) (aways set i ++ (intervals set i ++ singles set i))
    (all_per_pair P (length set.tasks) (length set.resources) (resource_holding_row set held i) each.resource)
    (All-append P (aways set i) (intervals set i ++ singles set i) (all_per P (length set.tasks) (away_row set i) each.away)
    (All-append P (intervals set i) (singles set i)
    (all_per_where P (is_lower_local set i) (length set.tasks) (shared_interval_row set i) each.interval)
    (All-cons P (local_preemption_row set i) (lower_wait_row set i ∷ []) each.preemption
    (All-cons P (lower_wait_row set i) [] each.wait (All-nil P))))))

-- No limit falls where as many jobs can run or more, and higher tasks hold no less.
higher_rise : (set : SetDef) (i : ℕ) (r s : List ℕ) (test : ℕ → Bool) (q : ℕ) → i < length set.tasks → HasJobsAtMost set i r s
    → requests_by_higher set (slice_index r) i test q ≤ requests_by_higher set (slice_index s) i test q
higher_rise set i r s test q here h = sum_below-monotone i _ _ (λ y a.
    only_if-rises (test y) (requests_in set (slice_index r) i y q) (requests_in set (slice_index s) i y q)
    (λ counts. requests_rise set r s i y q (h y (omega arith))))

pub shared_holdings_rise : (set : SetDef) (i x : ℕ) (passes : ℕ → Bool) (low high : ℕ → ℕ)
    → ((q : ℕ) → q < length set.resources → low q ≤ high q) → shared_holdings set low i x passes ≤ shared_holdings set high i x passes
shared_holdings_rise set i x passes low high most = sum_below-monotone (length set.resources) _ _ (λ q l.
    only_if-rises (is_user set q i && (is_shared_out set i q && passes q)) (limit low q) (limit high q)
    (λ counts. omega (arith, most q l))) where
      limit : (ℕ → ℕ) → ℕ → ℕ
      limit higher q = higher q + only_if (not (have_one_processor set x i)) (lower_holdings set i x q)

away_rises : (set : SetDef) (i : ℕ) (r s : List ℕ) (x : ℕ) → i < length set.tasks → HasJobsAtMost set i r s → Rises r s (away_row set i x)
away_rises set i r s x here h = sum_below-monotone (length set.resources) _ _ (λ q l.
    let higher = higher_rise set i r s (is_away set x) q here h in
    only_if-rises (is_user set q i && is_held_there set i x q) (count_of set i q + away_holdings set (slice_index r) i x q)
    (count_of set i q + away_holdings set (slice_index s) i x q) (λ counts. omega (arith, higher)))

pub further_rise : (set : SetDef) (held : (ℕ → ℕ) → ℕ → ℕ → ℕ) (i : ℕ) (r s : List ℕ) → i < length set.tasks → HasJobsAtMost set i r s
    → ((x q : ℕ) → x < length set.tasks → q < length set.resources → held (slice_index r) x q ≤ held (slice_index s) x q)
    → EachFurther (Rises r s) set held i
further_rise set held i r s here h most = record {
  holding = λ x a. shared_holdings_rise set i x (goes_before set x) (held (slice_index r) x) (held (slice_index s) x) (λ q b. most x q a b);
  resource = λ x q a b. shared_holdings_rise set i x (goes_first set x q) (held (slice_index r) x) (held (slice_index s) x)
      (λ p l. most x p a l);
  away = λ x a. away_rises set i r s x here h;
  interval = λ x a l. omega arith;
  preemption = omega arith;
  wait = omega arith;
}

-- No limit is large where higher tasks don't hold many.
higher_few : (set : SetDef) (r : List ℕ) (i : ℕ) (test : ℕ → Bool) (q : ℕ) → IsAccepted set → AreWithinDeadlines set r → i < length set.tasks
    → requests_by_higher set (slice_index r) i test q ≤ 128000000000000
higher_few set r i test q accepted within here =
    let sizes = sizes_of_accepted set accepted in
    let sum = sum_at_most i 2000000000000 (λ y. only_if (test y) (requests_in set (slice_index r) i y q)) (λ y l.
    omega (
      arith,
      only_if-at_most (test y) (requests_in set (slice_index r) i y q),
      requests_in_small set r i y q accepted within here (omega (arith, l, here)),
    )) in
    omega (arith, sum, sizes.tasks_to, here)

shared_holdings_small : (set : SetDef) (i x : ℕ) (passes : ℕ → Bool) (higher : ℕ → ℕ) → IsAccepted set → i < length set.tasks
    → ((q : ℕ) → q < length set.resources → higher q ≤ 128000000000000) → shared_holdings set higher i x passes ≤ 4096000000032000
shared_holdings_small set i x passes higher accepted here most =
    let sizes = sizes_of_accepted set accepted in
    let sum = sum_at_most (length set.resources) 128000000001000 (λ q. only_if (ok q) (limit q)) (λ q l.
    omega (
      arith,
      only_if-at_most (ok q) (limit q),
      only_if-at_most (not (have_one_processor set x i)) (lower_holdings set i x q),
      most q l,
      lower_small set i x q accepted here,
    )) in
    omega (arith, sum, sizes.resources_to) where
      ok : ℕ → Bool
      ok = λ q. is_user set q i && (is_shared_out set i q && passes q)

      limit : ℕ → ℕ
      limit = λ q. higher q + only_if (not (have_one_processor set x i)) (lower_holdings set i x q)

away_small : (set : SetDef) (r : List ℕ) (i x : ℕ) → IsAccepted set → AreWithinDeadlines set r → i < length set.tasks
    → sum_below (length set.resources) (λ q. only_if (is_user set q i && is_held_there set i x q)
    (count_of set i q + away_holdings set (slice_index r) i x q))
    ≤ 4096000000064000
away_small set r i x accepted within here =
    let sizes = sizes_of_accepted set accepted in
    let sum = sum_at_most (length set.resources) 128000000002000
    (λ q. only_if (is_user set q i && is_held_there set i x q) (count_of set i q + away_holdings set (slice_index r) i x q)) (λ q l.
    omega (
      arith,
      only_if-at_most (is_user set q i && is_held_there set i x q) (count_of set i q + away_holdings set (slice_index r) i x q),
      only_if-at_most (has_lower_away set i x q) (count_of set i q),
      higher_few set r i (is_away set x) q accepted within here,
      count_small set i q accepted here,
    )) in
    omega (arith, sum, sizes.resources_to)

pub further_small : (set : SetDef) (held : (ℕ → ℕ) → ℕ → ℕ → ℕ) (i : ℕ) (r : List ℕ) → IsAccepted set → AreWithinDeadlines set r
    → i < length set.tasks
    → ((x q : ℕ) → x < length set.tasks → q < length set.resources → held (slice_index r) x q ≤ 128000000000000)
    → EachFurther (IsSmallRow r) set held i
further_small set held i r accepted within here most = record {
  holding = λ x a. small_flags r (λ c. (c.task == x) && is_indirect c.class)
      (λ bounds. shared_holdings set (held bounds x) i x (goes_before set x)) (of_shared x a (goes_before set x));
  resource = λ x q a b. small_flags r (λ c. ((c.task == x) && (c.resource == q)) && is_indirect c.class)
      (λ bounds. shared_holdings set (held bounds x) i x (goes_first set x q)) (of_shared x a (goes_first set x q));
  away = λ x a. small_flags r (λ c. (c.task == x) && not (is_preemption c.class)) (λ bounds. (away_row set i x).limit bounds)
      (omega (arith, away_small set r i x accepted within here));
  interval = λ x a l. small_flags r (λ c. (c.task == x) && is_preemption c.class) (λ bounds. 1 + requests_where set i (is_shared_out set i))
      one_more;
  preemption = small_flags r (λ c. is_preemption c.class && not (is_shared_out set i c.resource))
      (λ bounds. 1 + requests_where set i (is_shared_out set i)) one_more;
  wait = small_flags r (λ c. is_direct c.class && is_lower_local set i c.task) (λ bounds. 0) (omega arith);
} where
  one_more : 1 + requests_where set i (is_shared_out set i) ≤ 9223372036854775807
  one_more = omega (arith, requests_small set i (is_shared_out set i) accepted here)

  of_shared : (x : ℕ) → x < length set.tasks → (passes : ℕ → Bool)
      → shared_holdings set (held (slice_index r) x) i x passes ≤ 9223372036854775807
  of_shared x a passes = omega (arith, shared_holdings_small set i x passes (held (slice_index r) x) accepted here (λ q b. most x q a b))

-- There are few of them.
pub further_few : (set : SetDef) (held : (ℕ → ℕ) → ℕ → ℕ → ℕ) (i : ℕ) → Few set → length (further_rows set held i) ≤ 2242
further_few set held i f = omega (
  arith,
  length-append (holdings_of_tasks set held i) (holdings_by_resource set held i ++ (aways set i ++ (intervals set i ++ singles set i))),
  length-append (holdings_by_resource set held i) (aways set i ++ (intervals set i ++ singles set i)),
  length-append (aways set i) (intervals set i ++ singles set i),
  length-append (intervals set i) (singles set i),
  per_at_most (length set.tasks) (shared_holding_row set held i),
  pair_at_most (length set.tasks) (length set.resources) (resource_holding_row set held i),
  per_at_most (length set.tasks) (away_row set i),
  where_at_most (is_lower_local set i) (length set.tasks) (shared_interval_row set i),
  f.tasks,
  f.pairs,
)

-- A program has few of them.
holding_of : (set : SetDef) (held : (ℕ → ℕ) → ℕ → ℕ → ℕ) (i x : ℕ) → IsOfTask x (shared_holding_row set held i x)
holding_of set held i x c some = eqb-true _ _ (first_of (c.task == x) (is_indirect c.class) some)

resource_of : (set : SetDef) (held : (ℕ → ℕ) → ℕ → ℕ → ℕ) (i x q : ℕ) → IsOfPair x q (resource_holding_row set held i x q)
resource_of set held i x q c some =
    let both : ((c.task == x) ≡ true) × ((c.resource == q) ≡ true) =
    and_parts _ _ (first_of ((c.task == x) && (c.resource == q)) (is_indirect c.class) some) in
    (eqb-true _ _ both.0, eqb-true _ _ both.1)

away_of : (set : SetDef) (i x : ℕ) → IsOfTask x (away_row set i x)
away_of set i x c some = eqb-true _ _ (first_of (c.task == x) (not (is_preemption c.class)) some)

interval_of : (set : SetDef) (i x : ℕ) → IsOfTask x (shared_interval_row set i x)
interval_of set i x c some = eqb-true _ _ (first_of (c.task == x) (is_preemption c.class) some)

pub further_there : (set : SetDef) (held : (ℕ → ℕ) → ℕ → ℕ → ℕ) (i : ℕ) → IsAccepted set → i < length set.tasks
    → length (rows_there (columns_of protocol.Mpcp set i) (further_rows set held i)) ≤ 447
further_there set held i accepted here =
    let test : ColumnDef → Bool = is_column protocol.Mpcp set i in
    let cs : List ColumnDef = columns_of protocol.Mpcp set i in
    omega (
      arith,
      there_behind cs (holdings_of_tasks set held i) (holdings_by_resource set held i ++ (aways set i ++ (intervals set i ++ singles set i))),
      there_behind cs (holdings_by_resource set held i) (aways set i ++ (intervals set i ++ singles set i)),
      there_behind cs (aways set i) (intervals set i ++ singles set i),
      there_behind cs (intervals set i) (singles set i),
      task_rows_few test set i (shared_holding_row set held i) accepted here (columns_are_of_others protocol.Mpcp set i)
          (holding_of set held i),
      pair_rows_few test set (resource_holding_row set held i) accepted (columns_are_requests protocol.Mpcp set i) (resource_of set held i),
      task_rows_few test set i (away_row set i) accepted here (columns_are_of_others protocol.Mpcp set i) (away_of set i),
      where_rows_few test set i (is_lower_local set i) (shared_interval_row set i) accepted here
          (columns_are_of_others protocol.Mpcp set i) (interval_of set i),
      filter_shorter (holds_some cs) (singles set i),
    )
