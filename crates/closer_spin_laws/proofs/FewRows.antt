-- How many rows a program with the closer rows has at most.
use Rattle.std.proofs.Common.{◌≡◌, ℕ, ◌+◌, ◌-◌, ◌<◌, ◌≤◌, ◌==◌, ◌&&◌, not, Bool, true, false, List, [], ◌∷◌, ◌++◌, length, arith}
use Rattle.std.proofs.Common.{nat_lt, nat_le, refl, ◌||◌, if◌then◌else◌}
use Rattle.std.specs.List.{All}
use Rattle.std.proofs.lemmas.Bool.{and_parts, and_from, eqb-true, ltb-true}
use Rattle.std.proofs.lemmas.List.Elements.{All-get_or, All-from_get_or}
use Rattle.number_laws.specs.Sums.{flag}
use Rattle.number_laws.specs.Tests.{count_below}
use Rattle.number_laws.proofs.SumLaws.{sum_below-monotone, sum_below-swap}
use Rattle.number_laws.proofs.CountLaws.{flag-passes, count_below-some}
use Rattle.number_laws.proofs.TestLaws.{any_below-from, any_below-some}
use Rattle.program_form.specs.Program.{height}
use Rattle.sporadic_model.specs.SetDef.{SetDef, task_at}
use Rattle.sporadic_model.specs.Users.{is_user}
use Rattle.sporadic_model.specs.Accepted.{IsAccepted}
use Rattle.blocking_columns.specs.ColumnDef.{ColumnDef, IsKnown, is_preemption, is_direct}
use Rattle.blocking_columns.specs.Columns.{columns_where, AreRequests}
use Rattle.fragments.specs.Constraints.{ConstraintDef, per, per_pair, holds_some, rows_there}
use Rattle.blocking_columns.proofs.KnownColumns.{passing_pass, passing_known}
use Rattle.direct_constraints.specs.Rows.{common_rows}
use Rattle.program_laws.proofs.Lists.{filter_shorter}
use Rattle.program_laws.proofs.ListLengths.{Few, few, per_at_most}
use Rattle.program_laws.proofs.FewRows.{common_there, kept_pairs, held}
use Rattle.program_laws.proofs.UsedResources.{pairs_few}
use Rattle.program_laws.proofs.PlacedRows.{PlacedAt, count_below-placed, there_behind, height_is, columns_by_requests, columns_by_of_others}
use Rattle.charge_laws.specs.Fractions.{no_column}
use Rattle.spin_charging.specs.SpinPrograms.{blocks_by_spinning, is_spin_column, spin_columns, lower_request_row, is_from, own_spinning_row}
use Rattle.closer_spin_laws.specs.CloserSpinRows.{is_used_on, is_spun_below, is_spun_above, is_lone, are_many_spun, is_left_out}
use Rattle.closer_spin_laws.specs.CloserSpinRows.{are_few_above, is_set_apart, is_spun_beside, is_spun_with}
use Rattle.closer_spin_laws.specs.CloserSpinRows.{is_in_place, is_of_slot, used_above, closer_spinning_row, together_row}
use Rattle.closer_spin_laws.specs.CloserSpinRows.{lower_spinning_row, other_lower_spinning_row, lone_spinning_with_row, lone_spinning_row}
use Rattle.closer_spin_laws.specs.CloserSpinRows.{closer_spinning_rows, own_spinning_rows, together_rows, lone_spinning_rows}
use Rattle.closer_spin_laws.specs.CloserSpinRows.{spin_closer_rows, spin_closer_program}

-- A column of a user, of a task and a resource of the set, that has a coefficient in the row.
record ColumnIn (set : SetDef) (row : ConstraintDef) : Type 0 where
  column : ColumnDef
  user : is_user set column.resource column.task ≡ true
  listed : column.task < length set.tasks
  some : 0 < row.coefficient column

column_in : (test : ColumnDef → Bool) (set : SetDef) (row : ConstraintDef) → AreRequests test set
    → holds_some (columns_where test set) row ≡ true → ColumnIn set row
column_in test set row users h =
    let cs : List ColumnDef = columns_where test set in
    let both : All (λ c. (test c ≡ true) × IsKnown (length set.tasks) (length set.resources) c) cs =
    All-from_get_or (λ c. (test c ≡ true) × IsKnown (length set.tasks) (length set.resources) c) cs no_column (λ k l. (
      All-get_or (λ c. test c ≡ true) cs k no_column l (passing_pass test set),
      All-get_or (IsKnown (length set.tasks) (length set.resources)) cs k no_column l (passing_known test set),
    )) in
    let c = held (λ c. (test c ≡ true) × IsKnown (length set.tasks) (length set.resources) c) cs row both h in
    record { column = c.0; user = users c.0 c.1.0; listed = c.1.1.0; some = c.2 }

-- A resource is used on a processor where a column there requests it.
used_from : (set : SetDef) (k q : ℕ) (c : ColumnDef) → is_from set k q c ≡ true → is_user set c.resource c.task ≡ true
    → c.task < length set.tasks → is_used_on set k q ≡ true
used_from set k q c from user listed =
    let parts : (((task_at set c.task).processor == k) ≡ true) × ((c.resource == q) ≡ true) = and_parts _ _ from in
    let same : c.resource ≡ q = eqb-true _ _ parts.1 in
    any_below-from (length set.tasks) (λ x. ((task_at set x).processor == k) && is_user set q x) c.task listed
    (and_from _ _ parts.0 (rw (← same) user))

spun_used : (set : SetDef) (i k q : ℕ) → is_spun_below set i k q ≡ true → is_used_on set k q ≡ true
spun_used set i k q h = (and_parts _ _ (and_parts _ _ h).0).1

-- So each of these rows is there only where its resource is used on its processor.
abbrev IsOfUsed : SetDef → ℕ → ℕ → ConstraintDef → Type 0
IsOfUsed set k q row = ColumnIn set row → is_used_on set (k + 1) q ≡ true

spinning_of : (set : SetDef) (i k q : ℕ) → IsOfUsed set k q (closer_spinning_row set i (k + 1) q)
spinning_of set i k q a = by_class (is_preemption a.column.class)
    (and_parts _ _ (flag-passes (not (is_left_out set i (k + 1) q) && is_in_place set i (k + 1) q a.column) a.some)).1 where
      by_class : (p : Bool)
          → (if p then is_spun_below set i (k + 1) q && not (a.column.resource == q) else is_from set (k + 1) q a.column) ≡ true
          → is_used_on set (k + 1) q ≡ true
      by_class true h = spun_used set i (k + 1) q (and_parts _ _ h).0
      by_class false h = used_from set (k + 1) q a.column h a.user a.listed

own_of : (set : SetDef) (i k q : ℕ) → IsOfUsed set k q (own_spinning_row set i (k + 1) q)
own_of set i k q a = used_from set (k + 1) q a.column
    (and_parts _ _ (flag-passes (is_from set (k + 1) q a.column && is_direct a.column.class) a.some)).0 a.user a.listed

-- Where several resources have a row together, one of them passes.
one_passes : (set : SetDef) (i k least : ℕ) (passes : ℕ → Bool) (c : ColumnDef) → 0 < (together_row set i k least passes).coefficient c
    → (r : ℕ) × (r < length set.resources) × (passes r ≡ true)
one_passes set i k least passes c some =
    let several : (nat_lt 1 (count_below (length set.resources) passes) && nat_le least (used_above set i k)) ≡ true =
    (and_parts _ _ (flag-passes ((nat_lt 1 (count_below (length set.resources) passes) && nat_le least (used_above set i k))
    && is_of_slot set k passes c) some)).0 in
    let more : nat_lt 1 (count_below (length set.resources) passes) ≡ true =
    (and_parts (nat_lt 1 (count_below (length set.resources) passes)) (nat_le least (used_above set i k)) several).0 in
    count_below-some (length set.resources) passes (omega (arith, ltb-true 1 (count_below (length set.resources) passes) more))

-- What is set apart is spun for.
apart_spun : (set : SetDef) (i k q : ℕ) → is_set_apart set i k q ≡ true → is_spun_below set i k q ≡ true
apart_spun set i k q h = by_first (is_spun_above set i k q && are_few_above set i k) refl h where
  by_first : (b : Bool) → (is_spun_above set i k q && are_few_above set i k) ≡ b
      → (b || (is_lone set i k q && not (are_many_spun set i k))) ≡ true → is_spun_below set i k q ≡ true
  by_first true first e = (and_parts _ _ (and_parts (is_spun_above set i k q) _ first).0).0
  by_first false first e = (and_parts _ _ (and_parts (is_lone set i k q) _ e).0).0

other_of : (set : SetDef) (i k q : ℕ) → IsOfUsed set k q (other_lower_spinning_row set i (k + 1) q)
other_of set i k q a =
    let passes : ℕ → Bool = is_spun_beside set i (k + 1) q in
    let some : (r : ℕ) × (r < length set.resources) × (passes r ≡ true) = one_passes set i (k + 1) 0 passes a.column a.some in
    spun_used set i (k + 1) q (apart_spun set i (k + 1) q (and_parts (is_set_apart set i (k + 1) q) _ some.2).0)

with_of : (set : SetDef) (i k q : ℕ) → IsOfUsed set k q (lone_spinning_with_row set i (k + 1) q)
with_of set i k q a =
    let passes : ℕ → Bool = is_spun_with set i (k + 1) q in
    let some : (r : ℕ) × (r < length set.resources) × (passes r ≡ true) = one_passes set i (k + 1) 3 passes a.column a.some in
    spun_used set i (k + 1) q (and_parts _ _ (and_parts (is_spun_above set i (k + 1) q) _ some.2).0).0

-- The number of a task's processor, from 0 on.
abbrev processor_number : SetDef → ℕ → ℕ
processor_number set x = (task_at set x).processor - 1

used_at : (set : SetDef) (k q : ℕ) → is_used_on set (k + 1) q ≡ true
    → PlacedAt (length set.tasks) (λ x. is_user set q x) (processor_number set) k
used_at set k q h =
    let at : (x : ℕ) × (x < length set.tasks) × ((((task_at set x).processor == k + 1) && is_user set q x) ≡ true) =
    any_below-some (length set.tasks) (λ x. ((task_at set x).processor == k + 1) && is_user set q x) h in
    let parts : (((task_at set at.0).processor == k + 1) ≡ true) × (is_user set q at.0 ≡ true) = and_parts _ _ at.2 in
    let place : (task_at set at.0).processor ≡ k + 1 = eqb-true _ _ parts.0 in
    record { number = at.0; below = at.1; passes = parts.1; there = omega (arith, place) }

-- Of such rows at most 256 are there.
used_rows_few : (test : ColumnDef → Bool) (set : SetDef) (row : ℕ → ℕ → ConstraintDef) → IsAccepted set → AreRequests test set
    → ((k q : ℕ) → IsOfUsed set k q (row k q))
    → length (rows_there (columns_where test set) (per_pair set.processors (length set.resources) row)) ≤ 256
used_rows_few test set row accepted users of =
    let n = length set.tasks in
    let m = length set.resources in
    let there : ConstraintDef → Bool = holds_some (columns_where test set) in
    let each = sum_below-monotone m (λ q. count_below set.processors (λ k. there (row k q))) (λ q. count_below n (λ x. is_user set q x))
    (λ q a. count_below-placed set.processors n (λ k. there (row k q)) (λ x. is_user set q x) (processor_number set)
    (λ k b h. used_at set k q (of k q (column_in test set (row k q) users h)))) in
    omega (
      arith,
      kept_pairs there set.processors m row,
      sum_below-swap set.processors m (λ k q. flag (there (row k q))),
      each,
      sum_below-swap m n (λ q x. flag (is_user set q x)),
      pairs_few set accepted,
    )

together_few : (set : SetDef) (i : ℕ) → IsAccepted set → length (rows_there (spin_columns set i) (together_rows set i)) ≤ 576
together_few set i accepted =
    let cs : List ColumnDef = spin_columns set i in
    let all = per set.processors (λ k. lower_spinning_row set i (k + 1)) in
    let others = per_pair set.processors (length set.resources) (λ k q. other_lower_spinning_row set i (k + 1) q) in
    let with_one = per_pair set.processors (length set.resources) (λ k q. lone_spinning_with_row set i (k + 1) q) in
    let users = columns_by_requests (blocks_by_spinning set i) set i in
    let f : Few set = few set accepted in
    omega (
      arith,
      there_behind cs all (others ++ with_one),
      there_behind cs others with_one,
      filter_shorter (holds_some cs) all,
      per_at_most set.processors (λ k. lower_spinning_row set i (k + 1)),
      f.processors,
      used_rows_few (is_spin_column set i) set (λ k q. other_lower_spinning_row set i (k + 1) q) accepted users (other_of set i),
      used_rows_few (is_spin_column set i) set (λ k q. lone_spinning_with_row set i (k + 1) q) accepted users (with_of set i),
    )

rows_at_most : (set : SetDef) (i : ℕ) → IsAccepted set → i < length set.tasks
    → length (rows_there (spin_columns set i) (spin_closer_rows set i)) ≤ 1472
rows_at_most set i accepted here =
    let test : ColumnDef → Bool = is_spin_column set i in
    let cs : List ColumnDef = spin_columns set i in
    let users = columns_by_requests (blocks_by_spinning set i) set i in
    let lower : List ConstraintDef = lower_request_row ∷ [] in
    let spinning = closer_spinning_rows set i in
    let own = own_spinning_rows set i in
    let together = together_rows set i in
    let lone = lone_spinning_rows set i in
    omega (
      arith,
      there_behind cs (common_rows set i) (lower ++ (own ++ (together ++ (lone ++ spinning)))),
      there_behind cs lower (own ++ (together ++ (lone ++ spinning))),
      there_behind cs own (together ++ (lone ++ spinning)),
      there_behind cs together (lone ++ spinning),
      there_behind cs lone spinning,
      filter_shorter (holds_some cs) lone,
      per_at_most set.processors (λ k. lone_spinning_row set i (k + 1)),
      (few set accepted).processors,
      common_there test set i accepted here users (columns_by_of_others (blocks_by_spinning set i) set i),
      filter_shorter (holds_some cs) lower,
      used_rows_few test set (λ k q. closer_spinning_row set i (k + 1) q) accepted users (spinning_of set i),
      used_rows_few test set (λ k q. own_spinning_row set i (k + 1) q) accepted users (own_of set i),
      together_few set i accepted,
    )

pub spin_closer_height : (set : SetDef) (i : ℕ) (r : List ℕ) → IsAccepted set → i < length set.tasks
    → height (spin_closer_program set i r) ≤ 1472
spin_closer_height set i r accepted here =
    omega (arith, height_is set (spin_columns set i) (spin_closer_rows set i) r, rows_at_most set i accepted here)
