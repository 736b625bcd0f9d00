-- How many rows a program has at most. It has a row only if some column has a coefficient in it, and the columns are requests by other
-- tasks of resources that these use.
use Rattle.std.proofs.Common.{◌≡◌, ℕ, zero, suc, ◌+◌, ◌<◌, ◌≤◌, ◌==◌, ◌&&◌, not, Bool, true, false, nat_lt, List, [], ◌∷◌, ◌++◌, map}
use Rattle.std.proofs.Common.{length, refl, ◌∙◌, arith, inl, inr, cond, if◌then◌else◌}
use Rattle.std.specs.List.{All, filter}
use Rattle.std.proofs.lemmas.Bool.{cases_lt, cases_Bool, both_ways, and_parts, eqb-true, eq-eqb, ltb-true}
use Rattle.std.proofs.lemmas.List.{length-append, length-map}
use Rattle.std.proofs.lemmas.List.Elements.{filter-append, All-head, All-tail}
use Rattle.number_laws.specs.Sums.{sum_below, flag, only_if}
use Rattle.number_laws.specs.Tests.{count_below}
use Rattle.number_laws.proofs.SumLaws.{sum_below-agree, sum_below-monotone, sum_below-longer}
use Rattle.number_laws.proofs.CountLaws.{flag-at_most, flag-of_false, count_below-at_most, count_below-monotone, flag-passes}
use Rattle.program_form.specs.Program.{height}
use Rattle.sporadic_model.specs.SetDef.{SetDef}
use Rattle.sporadic_model.specs.Users.{is_user, length_of}
use Rattle.sporadic_model.specs.Accepted.{IsAccepted}
use Rattle.sporadic_model.specs.declared.ids.Protocol.{Protocol}
use Rattle.sporadic_model.specs.declared.ids.Protocol.TheVariants as protocol
use Rattle.blocking_columns.specs.ColumnDef.{ColumnDef, is_direct, is_indirect, is_preemption}
use Rattle.blocking_columns.specs.Columns.{is_column, columns_where, columns_of, is_lower_local, AreRequests, AreOfOthers}
use Rattle.fragments.specs.Constraints.{ConstraintDef, per, per_where, per_pair, holds_some, rows_there}
use Rattle.blocking_columns.proofs.KnownColumns.{passing_pass, columns_are_requests, columns_are_of_others}
use Rattle.direct_constraints.specs.Rows.{request_row, time_row, turn_row, lower_holder_row, common_rows}
use Rattle.preempt_constraints.specs.Rows.{interval_row, preemption_rows}
use Rattle.indirect_constraints.specs.Rows.{queue_row, holding_row, home_row}
use Rattle.program_laws.specs.Programs.{protocol_rows, rows_of, program_of}
use Rattle.program_laws.proofs.Lists.{filter_shorter}
use Rattle.program_laws.proofs.ListLengths.{Few, few, per_at_most}
use Rattle.program_laws.proofs.UsedResources.{filtered_sum, pairs_few}

-- Has the row coefficients only for requests by task x, and only of resource q?
abbrev pub IsOfTask : ℕ → ConstraintDef → Type 0
IsOfTask x row = (c : ColumnDef) → 0 < row.coefficient c → c.task ≡ x

abbrev pub IsOfPair : ℕ → ℕ → ConstraintDef → Type 0
IsOfPair x q row = (c : ColumnDef) → 0 < row.coefficient c → (c.task ≡ x) × (c.resource ≡ q)

one_kept : (p : ConstraintDef → Bool) (row : ConstraintDef) → length (filter p (row ∷ [])) ≡ flag (p row)
one_kept p row = elim (p row) as (λ b. length (cond b (row ∷ []) []) ≡ flag b) [ true ↦ refl | false ↦ refl ]

kept_per : (p : ConstraintDef → Bool) (n : ℕ) (row : ℕ → ConstraintDef) → length (filter p (per n row)) ≡ count_below n (λ k. p (row k))
kept_per p n row = filtered_sum p n (λ k. row k ∷ [])
    ∙ sum_below-agree n (λ k. length (filter p (row k ∷ []))) (λ k. flag (p (row k))) (λ k l. one_kept p (row k))

pub kept_pairs : (p : ConstraintDef → Bool) (m n : ℕ) (row : ℕ → ℕ → ConstraintDef)
    → length (filter p (per_pair m n row)) ≡ sum_below m (λ x. count_below n (λ q. p (row x q)))
kept_pairs p m n row = filtered_sum p m (λ x. per n (row x))
    ∙ sum_below-agree m (λ x. length (filter p (per n (row x)))) (λ x. count_below n (λ q. p (row x q))) (λ x l. kept_per p n (row x))

kept_if : (p : ConstraintDef → Bool) (b : Bool) (row : ConstraintDef) → length (filter p (if b then row ∷ [] else [])) ≤ flag (p row)
kept_if p true row = omega (arith, one_kept p row)
kept_if p false row = omega arith

kept_where : (p : ConstraintDef → Bool) (test : ℕ → Bool) (n : ℕ) (row : ℕ → ConstraintDef)
    → length (filter p (per_where test n row)) ≤ count_below n (λ k. p (row k))
kept_where p test n row = omega (
  arith,
  filtered_sum p n (λ k. if test k then row k ∷ [] else []),
  sum_below-monotone n (λ k. length (filter p (if test k then row k ∷ [] else []))) (λ k. flag (p (row k)))
      (λ k l. kept_if p (test k) (row k)),
)

-- What is known of a column with a coefficient in the row.
pub held : (P : ColumnDef → Type 0) (cs : List ColumnDef) (row : ConstraintDef) → All P cs → holds_some cs row ≡ true
    → (c : ColumnDef) × (P c) × (0 < row.coefficient c)
held P [] row all h = absurd cc
held P (c ∷ cs) row all h = elim (cases_Bool (nat_lt 0 (row.coefficient c))) [
  | inl some ↦ (c, All-head P c cs all, ltb-true _ _ some)
  | inr none ↦ held P cs row (All-tail P c cs all) (rw none at h)
]

-- The program has a row of one task and one resource only if the task uses the resource.
pair_held : (test : ColumnDef → Bool) (set : SetDef) (x q : ℕ) (row : ConstraintDef) → AreRequests test set → IsOfPair x q row
    → holds_some (columns_where test set) row ≡ true → is_user set q x ≡ true
pair_held test set x q row users of h =
    let c : (c : ColumnDef) × (test c ≡ true) × (0 < row.coefficient c) =
    held (λ c. test c ≡ true) (columns_where test set) row (passing_pass test set) h in
    let at : (c.0.task ≡ x) × (c.0.resource ≡ q) = of c.0 c.2 in
    rw (← at.0, ← at.1) (users c.0 c.1)

-- It has no row of the analysed task alone.
own_missing : (test : ColumnDef → Bool) (set : SetDef) (i : ℕ) (row : ConstraintDef) → AreOfOthers test i → IsOfTask i row
    → holds_some (columns_where test set) row ≡ false
own_missing test set i row others of = elim (cases_Bool (holds_some (columns_where test set) row)) [
  | inr none ↦ none
  | inl h ↦
      let c : (c : ColumnDef) × (test c ≡ true) × (0 < row.coefficient c) =
      held (λ c. test c ≡ true) (columns_where test set) row (passing_pass test set) h in
      absurd (both_ways (c.0.task == i) (others c.0 c.1) (eq-eqb c.0.task i (of c.0 c.2)))
]

count_but_one : (n i : ℕ) (p : ℕ → Bool) → i < n → p i ≡ false → count_below n p < n
count_but_one zero i p l none = absurd (omega arith)
count_but_one (suc n) i p l none = elim (cases_lt i n) [
  | inl before ↦ omega (arith, count_but_one n i p before none, flag-at_most (p n))
  | inr last ↦
      let same : i ≡ n = omega arith in
      let no : p n ≡ false = rw (← same) none in
      omega (arith, count_below-at_most n p, flag-of_false (p n) no)
]

-- So it has at most 256 rows for the first tasks and the resources.
pub first_rows_few : (test : ColumnDef → Bool) (set : SetDef) (n : ℕ) (row : ℕ → ℕ → ConstraintDef) → IsAccepted set
    → AreRequests test set → n ≤ length set.tasks → ((x q : ℕ) → IsOfPair x q (row x q))
    → length (rows_there (columns_where test set) (per_pair n (length set.resources) row)) ≤ 256
first_rows_few test set n row accepted users first of =
    let m = length set.resources in
    let there : ConstraintDef → Bool = holds_some (columns_where test set) in
    let used : ℕ → ℕ = λ x. count_below m (λ q. is_user set q x) in
    let each = sum_below-monotone n (λ x. count_below m (λ q. there (row x q))) used (λ x a.
    count_below-monotone m (λ q. there (row x q)) (λ q. is_user set q x) (λ q b h. pair_held test set x q (row x q) users (of x q) h)) in
    omega (arith, kept_pairs there n m row, each, sum_below-longer n (length set.tasks) used first, pairs_few set accepted)

pub pair_rows_few : (test : ColumnDef → Bool) (set : SetDef) (row : ℕ → ℕ → ConstraintDef) → IsAccepted set → AreRequests test set
    → ((x q : ℕ) → IsOfPair x q (row x q))
    → length (rows_there (columns_where test set) (per_pair (length set.tasks) (length set.resources) row)) ≤ 256
pair_rows_few test set row accepted users of = first_rows_few test set (length set.tasks) row accepted users (omega arith) of

-- It has at most 63 rows for tasks, since it has none for the analysed one.
pub task_rows_few : (test : ColumnDef → Bool) (set : SetDef) (i : ℕ) (row : ℕ → ConstraintDef) → IsAccepted set → i < length set.tasks
    → AreOfOthers test i → ((x : ℕ) → IsOfTask x (row x))
    → length (rows_there (columns_where test set) (per (length set.tasks) row)) ≤ 63
task_rows_few test set i row accepted here others of =
    let n = length set.tasks in
    let there : ConstraintDef → Bool = holds_some (columns_where test set) in
    let f : Few set = few set accepted in
    omega (
      arith,
      kept_per there n row,
      count_but_one n i (λ k. there (row k)) here (own_missing test set i (row i) others (of i)),
      f.tasks,
    )

pub where_rows_few : (test : ColumnDef → Bool) (set : SetDef) (i : ℕ) (only : ℕ → Bool) (row : ℕ → ConstraintDef) → IsAccepted set
    → i < length set.tasks → AreOfOthers test i → ((x : ℕ) → IsOfTask x (row x))
    → length (rows_there (columns_where test set) (per_where only (length set.tasks) row)) ≤ 63
where_rows_few test set i only row accepted here others of =
    let n = length set.tasks in
    let there : ConstraintDef → Bool = holds_some (columns_where test set) in
    let f : Few set = few set accepted in
    omega (
      arith,
      kept_where there only n row,
      count_but_one n i (λ k. there (row k)) here (own_missing test set i (row i) others (of i)),
      f.tasks,
    )

only_passes : (b : Bool) (n : ℕ) → 0 < only_if b n → b ≡ true
only_passes true n h = refl
only_passes false n h = absurd (omega arith)

flagged_pair : (a b : Bool) → 0 < flag (a && b) → a ≡ true
flagged_pair a b h = (and_parts a b (flag-passes (a && b) h)).0

request_of : (set : SetDef) (i x q : ℕ) → IsOfPair x q (request_row set i x q)
request_of set i x q c some =
    let both : ((c.task == x) ≡ true) × ((c.resource == q) ≡ true) =
    and_parts _ _ (flag-passes ((c.task == x) && (c.resource == q)) some) in
    (eqb-true _ _ both.0, eqb-true _ _ both.1)

time_of : (set : SetDef) (i x : ℕ) → IsOfTask x (time_row set i x)
time_of set i x c some = eqb-true _ _ (only_passes (c.task == x) (length_of set x c.resource) some)

interval_of : (set : SetDef) (i x : ℕ) → IsOfTask x (interval_row set i x)
interval_of set i x c some = eqb-true _ _ (flagged_pair (c.task == x) (is_preemption c.class) some)

pub turn_of : (set : SetDef) (i x q : ℕ) → IsOfPair x q (turn_row set i x q)
turn_of set i x q c some =
    let both : ((c.task == x) ≡ true) × ((c.resource == q) ≡ true) =
    and_parts _ _ (flagged_pair ((c.task == x) && (c.resource == q)) (is_direct c.class) some) in
    (eqb-true _ _ both.0, eqb-true _ _ both.1)

-- It has at most 319 of the rows that every protocol has, and at most 63 of those of preemption.
pub common_there : (test : ColumnDef → Bool) (set : SetDef) (i : ℕ) → IsAccepted set → i < length set.tasks → AreRequests test set
    → AreOfOthers test i → length (rows_there (columns_where test set) (common_rows set i)) ≤ 319
common_there test set i accepted here users others =
    let there : ConstraintDef → Bool = holds_some (columns_where test set) in
    let pairs = per_pair (length set.tasks) (length set.resources) (request_row set i) in
    let times = per (length set.tasks) (time_row set i) in
    rw (filter-append there pairs times, length-append (filter there pairs) (filter there times)) (omega (
      arith,
      pair_rows_few test set (request_row set i) accepted users (request_of set i),
      task_rows_few test set i (time_row set i) accepted here others (time_of set i),
    ))

pub preemption_there : (test : ColumnDef → Bool) (set : SetDef) (i : ℕ) → IsAccepted set → i < length set.tasks → AreOfOthers test i
    → length (rows_there (columns_where test set) (preemption_rows set i)) ≤ 63
preemption_there test set i accepted here others =
    where_rows_few test set i (is_lower_local set i) (interval_row set i) accepted here others (interval_of set i)

pub rest_there : (p : Protocol) (set : SetDef) (i : ℕ) → IsAccepted set → i < length set.tasks
    → length (rows_there (columns_of p set i) (protocol_rows p set i)) ≤ 319
rest_there protocol.FmlpPlus set i accepted here =
    let others = columns_are_of_others protocol.FmlpPlus set i in
    let there : ConstraintDef → Bool = holds_some (columns_of protocol.FmlpPlus set i) in
    let turns = per_pair (length set.tasks) (length set.resources) (turn_row set i) in
    let queues = per (length set.tasks) (queue_row set i) in
    rw (filter-append there turns queues, length-append (filter there turns) (filter there queues)) (omega (
      arith,
      pair_rows_few (is_column protocol.FmlpPlus set i) set (turn_row set i) accepted (columns_are_requests protocol.FmlpPlus set i)
          (turn_of set i),
      task_rows_few (is_column protocol.FmlpPlus set i) set i (queue_row set i) accepted here others
          (λ x c some. eqb-true _ _ (flagged_pair (c.task == x) (not (is_preemption c.class)) some)),
    ))
rest_there protocol.Mpcp set i accepted here =
    let others = columns_are_of_others protocol.Mpcp set i in
    let f : Few set = few set accepted in
    let there : ConstraintDef → Bool = holds_some (columns_of protocol.Mpcp set i) in
    let holders = per (length set.resources) (lower_holder_row set i) in
    let holdings = per (length set.tasks) (holding_row set i) in
    rw (filter-append there holders holdings, length-append (filter there holders) (filter there holdings)) (omega (
      arith,
      filter_shorter there holders,
      per_at_most (length set.resources) (lower_holder_row set i),
      f.resources,
      task_rows_few (is_column protocol.Mpcp set i) set i (holding_row set i) accepted here others
          (λ x c some. eqb-true _ _ (flagged_pair (c.task == x) (is_indirect c.class) some)),
    ))
rest_there protocol.Dpcp set i accepted here =
    let f : Few set = few set accepted in
    omega (
      arith,
      filter_shorter (holds_some (columns_of protocol.Dpcp set i)) (per set.processors (λ k. home_row set i (k + 1))),
      per_at_most set.processors (λ k. home_row set i (k + 1)),
      f.processors,
    )

pub rows_at_most : (p : Protocol) (set : SetDef) (i : ℕ) → IsAccepted set → i < length set.tasks
    → length (rows_there (columns_of p set i) (rows_of p set i)) ≤ 701
rows_at_most p set i accepted here =
    let test : ColumnDef → Bool = is_column p set i in
    let there : ConstraintDef → Bool = holds_some (columns_of p set i) in
    let own = protocol_rows p set i in
    let preemption = preemption_rows set i in
    let common = common_rows set i in
    rw (
      filter-append there common (preemption ++ own),
      filter-append there preemption own,
      length-append (filter there common) (filter there preemption ++ filter there own),
      length-append (filter there preemption) (filter there own),
    ) (omega (
      arith,
      common_there test set i accepted here (columns_are_requests p set i) (columns_are_of_others p set i),
      preemption_there test set i accepted here (columns_are_of_others p set i),
      rest_there p set i accepted here,
    ))

-- The same for the programs.
pub height_at_most : (p : Protocol) (set : SetDef) (i : ℕ) (r : List ℕ) → IsAccepted set → i < length set.tasks
    → height (program_of p set i r) ≤ 701
height_at_most p set i r accepted here =
    rw (length-map (rows_there (columns_of p set i) (rows_of p set i)) (λ (k : ConstraintDef). map k.coefficient (columns_of p set i)))
    (rows_at_most p set i accepted here)
