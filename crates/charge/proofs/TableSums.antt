-- The ticks of a table add up to the blocked ticks of the windows: each is counted in one item.
use Rattle.std.proofs.Common.{◌≡◌, ℕ, ◌<◌, ◌≤◌, ◌==◌, ◌&&◌, Bool, true, false, List, [], ◌∷◌, length, refl, sym, ap}
use Rattle.std.proofs.Common.{◌∙◌, arith, inl, inr, Option, Some, None, sum_by}
use Rattle.std.specs.List.{All, AllByRecursion, Contains}
use Rattle.std.specs.List.Sorted.{IsStrictlySortedBy}
use Rattle.std.specs.declared.cmp.Ordering.{Ordering}
use Rattle.std.specs.declared.cmp.Ordering.TheVariants.{Less, Equal, Greater}
use Rattle.std.proofs.lemmas.Bool.{cases_Bool, cases_eq, and_parts, and_from, eq-eqb, eqb-true, ne_eqb, false_from_ne_true, and_right}
use Rattle.std.proofs.lemmas.Cmp.{nat_cmp_total, tied_itself}
use Rattle.std.proofs.lemmas.List.Elements.{All-head, All-tail, All-weaker}
use Rattle.std.proofs.lemmas.List.Sums.{sum_by-cons}
use Rattle.number_laws.specs.Sums.{sum_below, flag, only_if}
use Rattle.number_laws.specs.Tests.{count_below}
use Rattle.number_laws.proofs.SumLaws.{sum_below-agree, sum_below-zero, sum_below-one}
use Rattle.number_laws.proofs.OnlyIfLaws.{only_if-nothing}
use Rattle.number_laws.proofs.CountLaws.{flag-at_most, flag-of_true}
use Rattle.schedule_model.specs.RowDef.{Trace}
use Rattle.schedule_model.specs.BlockedTicks.{is_blocked}
use Rattle.blocking_columns.specs.ClassOrder.{class_rank}
use Rattle.row_laws.proofs.ColumnSums.{sum_by-swap, sum_by-element}
use Rattle.charge_laws.specs.Charges.{Charge}
use Rattle.charge_laws.specs.Windows.{window_end}
use Rattle.charge.specs.Requests.{ChargedRequest, charged_request}
use Rattle.charge.specs.Table.{ItemDef, is_of, charged_ticks, item_cmp, IsChargeTable}
use Rattle.charge.proofs.TallyLaws.{Charges}

-- Sums of terms that agree, or are 0.
sum_agree : {X : Type 0} (f g : X → ℕ) (xs : List X) → All (λ x. f x ≡ g x) xs → sum_by f xs ≡ sum_by g xs
sum_agree f g [] h = refl
sum_agree f g (x ∷ xs) h =
    omega (
      arith,
      sum_by-cons f x xs,
      sum_by-cons g x xs,
      All-head (λ y. f y ≡ g y) x xs h,
      sum_agree f g xs (All-tail (λ y. f y ≡ g y) x xs h),
    )

sum_nothing : {X : Type 0} (f : X → ℕ) (xs : List X) → ((x : X) → f x ≡ 0) → sum_by f xs ≡ 0
sum_nothing f [] h = refl
sum_nothing f (x ∷ xs) h = omega (arith, sum_by-cons f x xs, h x, sum_nothing f xs h)

-- Is the tick of job j counted in the item?
abbrev counts : Charges → Trace → ℕ → ℕ → ItemDef → Bool
counts charges w t j item = (item.blocked == j) && is_of item (charged_request charges w t j)

-- What counts for two items is at one place of the table.
record Parts (j : ℕ) (r : ChargedRequest) (item : ItemDef) : Type 0 where
  blocked : item.blocked ≡ j
  blocker : r.job ≡ item.blocker
  request : r.number ≡ item.request
  class : class_rank r.class ≡ class_rank item.class

parts_of : (j : ℕ) (r : ChargedRequest) (item : ItemDef) → ((item.blocked == j) && is_of item (Some r)) ≡ true → Parts j r item
parts_of j r item h =
    let one = and_parts _ _ h in
    let two = and_parts _ _ one.1 in
    let three = and_parts _ _ two.1 in
    let four = and_parts _ _ three.1 in
    record { blocked = eqb-true _ _ one.0; blocker = eqb-true _ _ two.0; request = eqb-true _ _ three.0; class = eqb-true _ _ four.1 }

same_cmp : (a b : ItemDef) → a.blocked ≡ b.blocked → a.blocker ≡ b.blocker → a.request ≡ b.request
    → class_rank a.class ≡ class_rank b.class → item_cmp a b ≡ Equal
same_cmp a b e f g h =
    rw (e, f, g, h) (rw (
      tied_itself nat_cmp_total b.blocked,
      tied_itself nat_cmp_total b.blocker,
      tied_itself nat_cmp_total b.request,
      tied_itself nat_cmp_total (class_rank b.class),
    ) refl)

one_place : (charges : Charges) (w : Trace) (t j : ℕ) (a b : ItemDef) → counts charges w t j a ≡ true → counts charges w t j b ≡ true
    → item_cmp a b ≡ Equal
one_place charges w t j a b = go (charged_request charges w t j) where
  go : (o : Option ChargedRequest) → ((a.blocked == j) && is_of a o) ≡ true → ((b.blocked == j) && is_of b o) ≡ true → item_cmp a b ≡ Equal
  go None h g = let x : false ≡ true = (and_parts (a.blocked == j) false h).1 in absurd (cc)
  go (Some r) h g =
      let p : Parts j r a = parts_of j r a h in
      let q : Parts j r b = parts_of j r b g in
      same_cmp a b (p.blocked ∙ sym q.blocked) (sym p.blocker ∙ q.blocker) (sym p.request ∙ q.request) (sym p.class ∙ q.class)

-- In a list in order, at most one item is at a place.
none_after : (m : ItemDef → Bool) (x : ItemDef) (xs : List ItemDef) → ((y : ItemDef) → m y ≡ true → item_cmp x y ≡ Equal)
    → AllByRecursion (λ y. item_cmp x y ≡ Less) xs → sum_by (λ i. flag (m i)) xs ≡ 0
none_after m x [] same h = refl
none_after m x (y ∷ xs) same h =
    let off : m y ≡ false = false_from_ne_true (m y) (λ on. apart (item_cmp x y) h.0 (same y on)) in
    let none : flag (m y) ≡ 0 = rw off refl in
    omega (arith, sum_by-cons (λ i. flag (m i)) y xs, none, none_after m x xs same h.1) where
      apart : (o : Ordering) → o ≡ Less → o ≡ Equal → ⊥
      apart Less e f = cc
      apart Equal e f = cc
      apart Greater e f = cc

one_at_most : (m : ItemDef → Bool) (xs : List ItemDef) → ((x y : ItemDef) → m x ≡ true → m y ≡ true → item_cmp x y ≡ Equal)
    → IsStrictlySortedBy item_cmp xs → sum_by (λ i. flag (m i)) xs ≤ 1
unfolding IsStrictlySortedBy
one_at_most m [] same h = omega arith
one_at_most m (x ∷ xs) same h = elim (cases_Bool (m x)) [
  | inl on ↦
      omega (arith, sum_by-cons (λ i. flag (m i)) x xs, flag-at_most (m x), none_after m x xs (λ y there. same x y on there) h.0)
  | inr off ↦
      let none : flag (m x) ≡ 0 = rw off refl in
      omega (arith, sum_by-cons (λ i. flag (m i)) x xs, none, one_at_most m xs same h.1)
]

-- Each tick of a window is counted once where it is blocked, and else not.
tick_once : (charges : Charges) (interferes : Trace → ℕ → ℕ → Bool) (w : Trace) (bound : ℕ → ℕ) (n : ℕ) (items : List ItemDef) (t j : ℕ)
    → IsChargeTable charges interferes w bound n items
    → ((t k : ℕ) (c : Charge) → charges w t k ≡ Some c → is_blocked interferes w t k ≡ true) → j < length w.jobs
    → t < window_end w bound n j
    → sum_by (λ i. flag (counts charges w t j i)) items ≡ flag (is_blocked interferes w t j)
tick_once charges interferes w bound n items t j table only listed l = elim (cases_Bool (is_blocked interferes w t j)) [
  | inr free ↦ rw free (sum_nothing (λ i. flag (counts charges w t j i)) items (λ i. uncounted i (charges w t j) refl free))
  | inl blocked ↦
      let a : (item : ItemDef) × Contains items item × (item.blocked ≡ j) × (is_of item (charged_request charges w t j) ≡ true) =
      table.all t j listed l blocked in
      let on : counts charges w t j a.0 ≡ true = and_from _ _ (eq-eqb _ _ a.2) a.3 in
      let one : flag (is_blocked interferes w t j) ≡ 1 = flag-of_true _ blocked in
      omega (
        arith,
        one,
        flag-of_true _ on,
        sum_by-element (λ i. flag (counts charges w t j i)) items a.0 a.1,
        one_at_most (counts charges w t j) items (one_place charges w t j) table.sorted,
      )
] where
  uncounted : (i : ItemDef) (o : Option Charge) → charges w t j ≡ o → is_blocked interferes w t j ≡ false
      → flag (counts charges w t j i) ≡ 0
  uncounted i None e free = rw (e, and_right (i.blocked == j) false refl) refl
  uncounted i (Some c) e free = let on : is_blocked interferes w t j ≡ true = only t j c e in absurd (cc)

-- So a job's items have its blocked ticks.
job_sum : (charges : Charges) (interferes : Trace → ℕ → ℕ → Bool) (w : Trace) (bound : ℕ → ℕ) (n : ℕ) (items : List ItemDef) (j : ℕ)
    → IsChargeTable charges interferes w bound n items
    → ((t k : ℕ) (c : Charge) → charges w t k ≡ Some c → is_blocked interferes w t k ≡ true) → j < length w.jobs
    → sum_by (λ i. only_if (i.blocked == j) i.ticks) items ≡ count_below (window_end w bound n j) (λ t. is_blocked interferes w t j)
unfolding charged_ticks
job_sum charges interferes w bound n items j table only listed =
    sum_agree (λ i. only_if (i.blocked == j) i.ticks) (λ i. sum_below e (λ t. flag (counts charges w t j i))) items
    (All-weaker (λ i. i.ticks ≡ charged_ticks charges w bound n i)
    (λ i. only_if (i.blocked == j) i.ticks ≡ sum_below e (λ t. flag (counts charges w t j i)))
    (λ i ticks. of_item i ticks) items table.counted)
    ∙ sum_by-swap e (λ i t. flag (counts charges w t j i)) items
    ∙ sum_below-agree e (λ t. sum_by (λ i. flag (counts charges w t j i)) items) (λ t. flag (is_blocked interferes w t j))
    (λ t l. tick_once charges interferes w bound n items t j table only listed l) where
      e : ℕ
      e = window_end w bound n j

      of_item : (i : ItemDef) → i.ticks ≡ charged_ticks charges w bound n i
          → only_if (i.blocked == j) i.ticks ≡ sum_below e (λ t. flag (counts charges w t j i))
      of_item i ticks = elim (cases_eq i.blocked j) [
        | inl same ↦
            let t : (i.blocked == j) ≡ true = eq-eqb _ _ same in
            rw t (ticks ∙ ap (λ k. count_below (window_end w bound n k) (λ u. is_of i (charged_request charges w u k))) same)
        | inr other ↦
            let t : (i.blocked == j) ≡ false = ne_eqb _ _ other in
            rw t (sym (sum_below-zero e (λ u. 0) (λ k l. refl)))
      ]

-- And the items of some jobs those of these jobs.
pub table_sum : (charges : Charges) (interferes : Trace → ℕ → ℕ → Bool) (w : Trace) (bound : ℕ → ℕ) (n : ℕ) (items : List ItemDef)
    (those : ℕ → Bool) → IsChargeTable charges interferes w bound n items
    → ((t k : ℕ) (c : Charge) → charges w t k ≡ Some c → is_blocked interferes w t k ≡ true)
    → sum_by (λ i. only_if (those i.blocked) i.ticks) items
    ≡ sum_below (length w.jobs) (λ j. only_if (those j) (count_below (window_end w bound n j) (λ t. is_blocked interferes w t j)))
table_sum charges interferes w bound n items those table only =
    sum_agree (λ i. only_if (those i.blocked) i.ticks) (λ i. sum_below (length w.jobs) (part i)) items
    (All-weaker (λ i. i.blocked < length w.jobs) (λ i. only_if (those i.blocked) i.ticks ≡ sum_below (length w.jobs) (part i))
    (λ i l. of_item i l) items table.listed)
    ∙ sum_by-swap (length w.jobs) part items
    ∙ sum_below-agree (length w.jobs) (λ j. sum_by (λ i. part i j) items)
    (λ j. only_if (those j) (count_below (window_end w bound n j) (λ t. is_blocked interferes w t j))) of_job where
      part : ItemDef → ℕ → ℕ
      part = λ i j. only_if (those j) (only_if (i.blocked == j) i.ticks)

      of_item : (i : ItemDef) → i.blocked < length w.jobs → only_if (those i.blocked) i.ticks ≡ sum_below (length w.jobs) (part i)
      of_item i l =
          let own : (i.blocked == i.blocked) ≡ true = eq-eqb _ _ refl in
          let one : sum_below (length w.jobs) (part i) ≡ part i i.blocked =
          sum_below-one (length w.jobs) (part i) i.blocked l (λ k b other. absent i k other) in
          sym (one ∙ ap (λ b. only_if (those i.blocked) (only_if b i.ticks)) own) where
            absent : (i : ItemDef) (k : ℕ) → (k ≡ i.blocked → ⊥) → part i k ≡ 0
            absent i k other =
                let t : (i.blocked == k) ≡ false = ne_eqb _ _ (λ s. other (sym s)) in
                rw t (only_if-nothing (those k))

      of_job : (j : ℕ) → j < length w.jobs → sum_by (λ i. part i j) items
          ≡ only_if (those j) (count_below (window_end w bound n j) (λ t. is_blocked interferes w t j))
      of_job j l = elim (cases_Bool (those j)) [
        | inl on ↦ rw on (job_sum charges interferes w bound n items j table only l)
        | inr off ↦ rw off (sum_nothing (λ i. only_if false (only_if (i.blocked == j) i.ticks)) items (λ i. refl))
      ]
