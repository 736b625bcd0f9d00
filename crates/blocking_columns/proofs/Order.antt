-- Columns that pass a test stand in order of the task, then the resource.
use Rattle.std.proofs.Common.{◌≡◌, ℕ, zero, suc, ◌-◌, ◌<◌, ◌≤◌, Bool, List, [], ◌∷◌, ◌++◌, map, length, refl, subst, sym, arith, inl, inr}
use Rattle.std.proofs.Math.ListN.{get_or, get_or-append}
use Rattle.std.proofs.Math.Seq.{get_or-append_right}
use Rattle.std.proofs.lemmas.Bool.{cases_lt}
use Rattle.std.proofs.lemmas.List.{length-append, length-map, get_or-map}
use Rattle.std.proofs.lemmas.List.Elements.{All-nil, All-cons, All-weaker}
use Rattle.std.proofs.lemmas.List.Kept.{IsNonDecreasingBy-filter}
use Rattle.std.specs.List.{All}
use Rattle.std.specs.List.Sorted.{IsNonDecreasingBy}
use Rattle.number_laws.specs.Sums.{collect_below}
use Rattle.sporadic_model.specs.SetDef.{SetDef}
use Rattle.blocking_columns.specs.ColumnDef.{ColumnDef, column_seen, classes_of, all_columns, IsKnown}
use Rattle.blocking_columns.specs.Columns.{columns_where}
use Rattle.blocking_columns.specs.declared.columns.Class.TheVariants as class
use Rattle.blocking_columns.specs.declared.columns.Fragment.{Fragment}
use Rattle.blocking_columns.specs.Stretches.{slot, AreInOrder}
use Rattle.blocking_columns.proofs.KnownColumns.{all_collected, all_known}

-- Lists in order, of which the first holds nothing above b and the second nothing below, are in order one behind the other.
in_order_append : {X : Type 0} (n : X → ℕ) (b : ℕ) (xs ys : List X) → IsNonDecreasingBy n xs → IsNonDecreasingBy n ys
    → All (λ x. n x ≤ b) xs → All (λ y. b ≤ n y) ys → IsNonDecreasingBy n (xs ++ ys)
in_order_append n b xs ys first second low high i j d l m = elim (cases_lt j (length xs)) [
  | inl j_first ↦ rw (get_or-append xs ys d i (omega arith), get_or-append xs ys d j j_first) (first i j d l j_first)
  | inr j_second ↦ elim (cases_lt i (length xs)) [
    | inl i_first ↦
        let below : n (get_or xs i d) ≤ b = low i d i_first in
        let above : b ≤ n (get_or ys (j - length xs) d) = high (j - length xs) d (omega (arith, m, length-append xs ys)) in
        rw (get_or-append xs ys d i i_first, get_or-append_right xs ys j d j_second) (omega arith)
    | inr i_second ↦ rw (get_or-append_right xs ys i d i_second, get_or-append_right xs ys j d j_second)
        (second (i - length xs) (j - length xs) d (omega arith) (omega (arith, m, length-append xs ys)))
  ]
]

-- A list is in order where all its elements have one number.
in_order_same : {X : Type 0} (n : X → ℕ) (b : ℕ) (xs : List X) → All (λ x. n x ≡ b) xs → IsNonDecreasingBy n xs
in_order_same n b xs same i j d l m =
    let first : n (get_or xs i d) ≡ b = same i d (omega arith) in
    let second : n (get_or xs j d) ≡ b = same j d m in
    omega arith

abbrev slot_seen : ColumnDef → ℕ
slot_seen c = slot c.task c.resource

-- The classes of one task and resource have one slot.
classes_at : (x q : ℕ) → All (λ c. (c.task ≡ x) × (c.resource ≡ q)) (classes_of x q)
classes_at x q =
    let Here : ColumnDef → Type 0 = λ c. (c.task ≡ x) × (c.resource ≡ q) in
    let direct : ColumnDef = record { task = x; resource = q; class = class.Direct } in
    let indirect : ColumnDef = record { task = x; resource = q; class = class.Indirect } in
    let preemption : ColumnDef = record { task = x; resource = q; class = class.Preemption } in
    All-cons Here direct (indirect ∷ preemption ∷ []) (refl, refl)
    (All-cons Here indirect (preemption ∷ []) (refl, refl) (All-cons Here preemption [] (refl, refl) (All-nil Here)))

classes_slot : (x q : ℕ) → All (λ c. slot_seen c ≡ slot x q) (classes_of x q)
classes_slot x q = All-weaker (λ c. (c.task ≡ x) × (c.resource ≡ q)) (λ c. slot_seen c ≡ slot x q)
    (λ c h. omega (arith, h.0, h.1)) (classes_of x q) (classes_at x q)

-- The columns of task x and of resources below m stand from slot x 0 on and below slot x m.
row_from : (x m : ℕ) → All (λ c. (c.task ≡ x) × (c.resource < m)) (collect_below m (λ q. classes_of x q))
row_from x m = all_collected (λ c. (c.task ≡ x) × (c.resource < m)) m (λ q. classes_of x q) (λ q l.
    All-weaker (λ c. (c.task ≡ x) × (c.resource ≡ q)) (λ c. (c.task ≡ x) × (c.resource < m))
    (λ c h. (h.0, omega (arith, h.1))) (classes_of x q) (classes_at x q))

row_in_order : (x m : ℕ) → IsNonDecreasingBy slot_seen (collect_below m (λ q. classes_of x q))
row_in_order x zero = λ i j d l m. absurd (omega arith)
row_in_order x (suc q) = in_order_append slot_seen (slot x q) (collect_below q (λ q. classes_of x q)) (classes_of x q) (row_in_order x q)
    (in_order_same slot_seen (slot x q) (classes_of x q) (classes_slot x q))
    (All-weaker (λ c. (c.task ≡ x) × (c.resource < q)) (λ c. slot_seen c ≤ slot x q) (λ c h. omega (arith, h.0, h.1))
    (collect_below q (λ q. classes_of x q)) (row_from x q))
    (All-weaker (λ c. slot_seen c ≡ slot x q) (λ c. slot x q ≤ slot_seen c) (λ c h. omega (arith, h)) (classes_of x q) (classes_slot x q))

all_in_order : (n m : ℕ) → m ≤ 4294967296 → IsNonDecreasingBy slot_seen (all_columns n m)
all_in_order zero m few = λ i j d l m. absurd (omega arith)
all_in_order (suc x) m few = in_order_append slot_seen (slot x 0) (all_columns x m)
    (collect_below m (λ q. classes_of x q)) (all_in_order x m few) (row_in_order x m)
    (All-weaker (IsKnown x m) (λ c. slot_seen c ≤ slot x 0) (λ c h. omega (arith, h.0, h.1)) (all_columns x m) (all_known x m))
    (All-weaker (λ c. (c.task ≡ x) × (c.resource < m)) (λ c. slot x 0 ≤ slot_seen c) (λ c h. omega (arith, h.0))
    (collect_below m (λ q. classes_of x q)) (row_from x m))

-- What contracts see of columns is in order, and so are the columns.
seen_in_order : (cs : List Fragment) → IsNonDecreasingBy slot_seen (map column_seen cs) → AreInOrder cs
seen_in_order cs h i j d l m =
    let first : get_or (map column_seen cs) i (column_seen d) ≡ column_seen (get_or cs i d) =
    get_or-map column_seen cs i d (column_seen d) (omega arith) in
    let second : get_or (map column_seen cs) j (column_seen d) ≡ column_seen (get_or cs j d) =
    get_or-map column_seen cs j d (column_seen d) m in
    let order : slot_seen (get_or (map column_seen cs) i (column_seen d))
    ≤ slot_seen (get_or (map column_seen cs) j (column_seen d)) =
    h i j (column_seen d) l (omega (arith, m, length-map cs column_seen)) in
    rw (first, second) at order

pub given_in_order : (test : ColumnDef → Bool) (set : SetDef) (cs : List Fragment) → length set.resources ≤ 4294967296
    → map column_seen cs ≡ columns_where test set → AreInOrder cs
given_in_order test set cs few same = seen_in_order cs (subst (IsNonDecreasingBy slot_seen) (sym same)
    (IsNonDecreasingBy-filter slot_seen test (all_columns (length set.tasks) (length set.resources))
    (all_in_order (length set.tasks) (length set.resources) few)))
