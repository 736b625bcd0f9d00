-- How many rows does a program have for a task and a place of resources, or for a place of tasks and a resource? No two of them have a
-- column in common. So there are at most as many as pairs of a task and a resource that it uses.
use Rattle.std.proofs.Common.{◌≡◌, ℕ, ◌<◌, ◌≤◌, ◌==◌, ◌&&◌, Bool, true, false, List, [], ◌∷◌, ◌++◌, ◌+◌, map, length, refl, sym, ◌∙◌, arith}
use Rattle.std.specs.List.{All, filter}
use Rattle.std.proofs.lemmas.Bool.{and_parts, eqb-true, eq-eqb, not-true}
use Rattle.std.proofs.lemmas.List.{length-append, length-map}
use Rattle.std.proofs.lemmas.List.Elements.{All-nil, All-cons, All-head, All-tail, filter-append}
use Rattle.number_laws.specs.Sums.{flag}
use Rattle.number_laws.specs.Tests.{count_below}
use Rattle.number_laws.proofs.SumLaws.{sum_below-monotone, sum_below-swap}
use Rattle.number_laws.proofs.CountLaws.{count_below-from, count_below-one, count_below-none}
use Rattle.program_form.specs.Program.{height, columns}
use Rattle.sporadic_model.specs.SetDef.{SetDef}
use Rattle.sporadic_model.specs.Users.{is_user, length_of}
use Rattle.sporadic_model.specs.Accepted.{IsAccepted}
use Rattle.blocking_columns.specs.declared.columns.Class.{Class}
use Rattle.blocking_columns.specs.ColumnDef.{ColumnDef, IsKnown}
use Rattle.blocking_columns.specs.Columns.{is_column_by, columns_where, AreRequests, AreOfOthers}
use Rattle.fragments.specs.Constraints.{ConstraintDef, per_pair, holds_some, rows_there}
use Rattle.blocking_columns.proofs.KnownColumns.{passing_pass, passing_known}
use Rattle.program_laws.specs.Programs.{program_with}
use Rattle.program_laws.proofs.FewRows.{kept_pairs, held}
use Rattle.program_laws.proofs.UsedResources.{pairs_few}

-- Which number below m passes, and has this place?
pub record PlacedAt (m : ℕ) (passes_at : ℕ → Bool) (place : ℕ → ℕ) (k : ℕ) : Type 0 where
  pub number : ℕ
  pub below : number < m
  pub passes : passes_at number ≡ true
  pub there : place number ≡ k

flag_reached : (b : Bool) (n : ℕ) → (b ≡ true → 0 < n) → flag b ≤ n
flag_reached true n some = omega (arith, some refl)
flag_reached false n some = omega arith

one_place : (n : ℕ) (b : Bool) (i : ℕ) → count_below n (λ k. b && (i == k)) ≤ flag b
one_place n true i = count_below-one n (λ k. i == k) (λ a c la lc here there. sym (eqb-true i a here) ∙ eqb-true i c there)
one_place n false i = omega (arith, count_below-none n (λ k. false) (λ k l. refl))

-- If each number that passes is the place of one that passes another test, no more numbers pass than of those.
pub count_below-placed : (n m : ℕ) (p q : ℕ → Bool) (place : ℕ → ℕ) → ((k : ℕ) → k < n → p k ≡ true → PlacedAt m q place k)
    → count_below n p ≤ count_below m q
count_below-placed n m p q place at =
    let spread = sum_below-monotone n (λ k. flag (p k)) (λ k. count_below m (λ j. q j && (place j == k))) (λ k l.
    flag_reached (p k) (count_below m (λ j. q j && (place j == k))) (λ h.
    let f : PlacedAt m q place k = at k l h in
    count_below-from m (λ j. q j && (place j == k)) f.number f.below (rw f.passes (eq-eqb (place f.number) k f.there)))) in
    let each = sum_below-monotone m (λ j. count_below n (λ k. q j && (place j == k))) (λ j. flag (q j)) (λ j l. one_place n (q j) (place j)) in
    omega (arith, spread, sum_below-swap n m (λ k j. flag (q j && (place j == k))), each)

-- A column that passes the test, of a task and a resource of the set.
record Counted (test : ColumnDef → Bool) (set : SetDef) (c : ColumnDef) : Type 0 where
  passes : test c ≡ true
  known : IsKnown (length set.tasks) (length set.resources) c

counted : (test : ColumnDef → Bool) (set : SetDef) (cs : List ColumnDef) → All (λ c. test c ≡ true) cs
    → All (IsKnown (length set.tasks) (length set.resources)) cs → All (Counted test set) cs
counted test set [] pass known = All-nil (Counted test set)
counted test set (c ∷ cs) pass known = All-cons (Counted test set) c cs
    (record { passes = All-head (λ c. test c ≡ true) c cs pass; known = All-head (IsKnown (length set.tasks) (length set.resources)) c cs known })
    (counted test set cs (All-tail (λ c. test c ≡ true) c cs pass) (All-tail (IsKnown (length set.tasks) (length set.resources)) c cs known))

-- Which column of a task and a resource of the set has a coefficient in the row?
record ColumnIn (test : ColumnDef → Bool) (set : SetDef) (row : ConstraintDef) : Type 0 where
  column : ColumnDef
  counts : Counted test set column
  some : 0 < row.coefficient column

column_in : (test : ColumnDef → Bool) (set : SetDef) (row : ConstraintDef) → holds_some (columns_where test set) row ≡ true
    → ColumnIn test set row
column_in test set row h =
    let c : (c : ColumnDef) × (Counted test set c) × (0 < row.coefficient c) =
    held (Counted test set) (columns_where test set) row
    (counted test set (columns_where test set) (passing_pass test set) (passing_known test set)) h in
    record { column = c.0; counts = c.1; some = c.2 }

-- Has the row coefficients only for requests by task x of resources at place k?
abbrev pub IsOfPlace : (ℕ → ℕ) → ℕ → ℕ → ConstraintDef → Type 0
IsOfPlace place x k row = (c : ColumnDef) → 0 < row.coefficient c → (c.task ≡ x) × (place c.resource ≡ k)

-- Only for requests of resource q by tasks at place k?
abbrev pub IsOfOrigin : (ℕ → ℕ) → ℕ → ℕ → ConstraintDef → Type 0
IsOfOrigin place k q row = (c : ColumnDef) → 0 < row.coefficient c → (place c.task ≡ k) × (c.resource ≡ q)

used_at : (test : ColumnDef → Bool) (set : SetDef) (place : ℕ → ℕ) (x k : ℕ) (row : ConstraintDef) → AreRequests test set
    → IsOfPlace place x k row → holds_some (columns_where test set) row ≡ true
    → PlacedAt (length set.resources) (λ q. is_user set q x) place k
used_at test set place x k row users of h =
    let c : ColumnIn test set row = column_in test set row h in
    let at : (c.column.task ≡ x) × (place c.column.resource ≡ k) = of c.column c.some in
    record {
      number = c.column.resource;
      below = c.counts.known.1;
      passes = rw (← at.0) (users c.column c.counts.passes);
      there = at.1;
    }

uses_from : (test : ColumnDef → Bool) (set : SetDef) (place : ℕ → ℕ) (k q : ℕ) (row : ConstraintDef) → AreRequests test set
    → IsOfOrigin place k q row → holds_some (columns_where test set) row ≡ true
    → PlacedAt (length set.tasks) (λ x. is_user set q x) place k
uses_from test set place k q row users of h =
    let c : ColumnIn test set row = column_in test set row h in
    let at : (place c.column.task ≡ k) × (c.column.resource ≡ q) = of c.column c.some in
    record {
      number = c.column.task;
      below = c.counts.known.0;
      passes = rw (← at.1) (users c.column c.counts.passes);
      there = at.0;
    }

-- A program has at most 256 rows for each task and each place of resources.
pub place_rows_few : (test : ColumnDef → Bool) (set : SetDef) (places : ℕ) (place : ℕ → ℕ) (row : ℕ → ℕ → ConstraintDef)
    → IsAccepted set → AreRequests test set → ((x k : ℕ) → IsOfPlace place x k (row x k))
    → length (rows_there (columns_where test set) (per_pair (length set.tasks) places row)) ≤ 256
place_rows_few test set places place row accepted users of =
    let n = length set.tasks in
    let m = length set.resources in
    let there : ConstraintDef → Bool = holds_some (columns_where test set) in
    let each = sum_below-monotone n (λ x. count_below places (λ k. there (row x k))) (λ x. count_below m (λ q. is_user set q x)) (λ x a.
    count_below-placed places m (λ k. there (row x k)) (λ q. is_user set q x) place (λ k b h.
    used_at test set place x k (row x k) users (of x k) h)) in
    omega (arith, kept_pairs there n places row, each, pairs_few set accepted)

-- The same of rows for each place of tasks and each resource.
pub origin_rows_few : (test : ColumnDef → Bool) (set : SetDef) (places : ℕ) (place : ℕ → ℕ) (row : ℕ → ℕ → ConstraintDef)
    → IsAccepted set → AreRequests test set → ((k q : ℕ) → IsOfOrigin place k q (row k q))
    → length (rows_there (columns_where test set) (per_pair places (length set.resources) row)) ≤ 256
origin_rows_few test set places place row accepted users of =
    let n = length set.tasks in
    let m = length set.resources in
    let there : ConstraintDef → Bool = holds_some (columns_where test set) in
    let each = sum_below-monotone m (λ q. count_below places (λ k. there (row k q))) (λ q. count_below n (λ x. is_user set q x)) (λ q a.
    count_below-placed places n (λ k. there (row k q)) (λ x. is_user set q x) place (λ k b h.
    uses_from test set place k q (row k q) users (of k q) h)) in
    omega (
      arith,
      kept_pairs there places m row,
      sum_below-swap places m (λ k q. flag (there (row k q))),
      each,
      sum_below-swap m n (λ q x. flag (is_user set q x)),
      pairs_few set accepted,
    )

-- Of two lists of rows, one after the other, a program has as many rows as of each list alone, together.
pub there_behind : (cs : List ColumnDef) (rows more : List ConstraintDef)
    → length (rows_there cs (rows ++ more)) ≡ length (rows_there cs rows) + length (rows_there cs more)
there_behind cs rows more = rw (
  filter-append (holds_some cs) rows more,
  length-append (filter (holds_some cs) rows) (filter (holds_some cs) more),
) refl

-- A program has a row for each given row with a coefficient above zero, and a column for each given column.
pub height_is : (set : SetDef) (cs : List ColumnDef) (rows : List ConstraintDef) (r : List ℕ)
    → height (program_with set cs rows r) ≡ length (rows_there cs rows)
height_is set cs rows r = length-map (rows_there cs rows) (λ (k : ConstraintDef). map k.coefficient cs)

pub width_is : (set : SetDef) (cs : List ColumnDef) (rows : List ConstraintDef) (r : List ℕ)
    → columns (program_with set cs rows r) ≡ length cs
width_is set cs rows r = length-map cs (λ (c : ColumnDef). length_of set c.task c.resource)

-- The columns of a task, of any protocol, are requests by users of their resources, and by other tasks.
pub columns_by_requests : (blocks : ℕ → ℕ → Class → Bool) (set : SetDef) (i : ℕ) → AreRequests (is_column_by blocks set i) set
columns_by_requests blocks set i c passes = (and_parts _ _ (and_parts _ _ passes).0).1

pub columns_by_of_others : (blocks : ℕ → ℕ → Class → Bool) (set : SetDef) (i : ℕ) → AreOfOthers (is_column_by blocks set i) i
columns_by_of_others blocks set i c passes = not-true (c.task == i) (and_parts _ _ (and_parts _ _ passes).0).0
