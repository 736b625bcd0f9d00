-- Each charged tick is counted in one item of a table, and each item counts its own ticks alone.
use Rattle.std.proofs.Common.{◌≡◌, ℕ, ◌<◌, ◌==◌, ◌&&◌, Bool, true, false, List, length, get_or, refl, sym, ap, ◌∙◌, inl}
use Rattle.std.proofs.Common.{inr, Option, Some, None}
use Rattle.std.specs.List.{Contains}
use Rattle.std.specs.List.Sorted.{IsStrictlySortedBy}
use Rattle.std.specs.Ordering.{nat_cmp}
use Rattle.std.specs.declared.cmp.Ordering.TheVariants.{Less, Equal}
use Rattle.std.proofs.lemmas.Bool.{cases_Bool, cases_order, and_parts, eq-eqb, eqb-true, and_right}
use Rattle.std.proofs.lemmas.Cmp.{nat_cmp_total, tied_itself}
use Rattle.std.proofs.lemmas.List.{get_or_default}
use Rattle.std.proofs.lemmas.Map.Keys.{Less-from_sorted}
use Rattle.number_laws.specs.Sums.{flag}
use Rattle.number_laws.specs.Tests.{count_below}
use Rattle.number_laws.proofs.SumLaws.{sum_below-one}
use Rattle.number_laws.proofs.CountLaws.{count_below-none, flag-of_false}
use Rattle.blocking_columns.specs.ClassOrder.{class_rank}
use Rattle.blocking_columns.specs.declared.columns.Class.{Class}
use Rattle.blocking_columns.specs.declared.columns.Class.TheVariants.{Direct}
use Rattle.charge_laws.specs.Fractions.{is_same_class}
use Rattle.charge.specs.Requests.{ChargedRequest}
use Rattle.charge.specs.Table.{ItemDef, is_of, item_cmp}
use Rattle.charge.proofs.Places.{rank_one}

-- What a look-up past the end gives.
abbrev pub no_item : ItemDef
no_item = record { blocked = 0; blocker = 0; request = 0; resource = 0; class = Direct; ticks = 0 }

abbrev pub item_at : List ItemDef → ℕ → ItemDef
item_at items k = get_or items k no_item

-- Is it an item of job j and of this class, and of this request?
abbrev pub counts_for : ℕ → Class → Option ChargedRequest → ItemDef → Bool
counts_for j c named item = ((item.blocked == j) && is_same_class c item.class) && is_of item named

-- The parts of an item's request.
record SameRequest (r : ChargedRequest) (item : ItemDef) : Type 0 where
  blocker : r.job ≡ item.blocker
  request : r.number ≡ item.request
  class : class_rank r.class ≡ class_rank item.class

request_parts : (r : ChargedRequest) (item : ItemDef) → is_of item (Some r) ≡ true → SameRequest r item
request_parts r item h =
    let one = and_parts _ _ h in
    let two = and_parts _ _ one.1 in
    let three = and_parts _ _ two.1 in
    record { blocker = eqb-true _ _ one.0; request = eqb-true _ _ two.0; class = eqb-true _ _ three.1 }

-- Two items of one request of one job have the same place in the order.
tied : (r : ChargedRequest) (a b : ItemDef) → a.blocked ≡ b.blocked → SameRequest r a → SameRequest r b → item_cmp a b ≡ Equal
tied r a b same of_a of_b = rw (
  itself same,
  itself (sym of_a.blocker ∙ of_b.blocker),
  itself (sym of_a.request ∙ of_b.request),
  itself (sym of_a.class ∙ of_b.class),
) refl where
  itself : {x y : ℕ} → x ≡ y → nat_cmp x y ≡ Equal
  itself {x} {y} e = ap (λ k. nat_cmp k y) e ∙ tied_itself nat_cmp_total y

-- So a sorted table has no two such items.
never_two : (r : ChargedRequest) (items : List ItemDef) (i k : ℕ) → IsStrictlySortedBy item_cmp items → i < k → k < length items
    → (item_at items i).blocked ≡ (item_at items k).blocked → is_of (item_at items i) (Some r) ≡ true
    → is_of (item_at items k) (Some r) ≡ true → ⊥
never_two r items i k sorted less below same of_i of_k =
    let first : item_cmp (item_at items i) (item_at items k) ≡ Less = Less-from_sorted item_cmp items i k no_item sorted less below in
    let equal : item_cmp (item_at items i) (item_at items k) ≡ Equal =
    tied r (item_at items i) (item_at items k) same (request_parts r (item_at items i) of_i) (request_parts r (item_at items k) of_k) in
    let no : Less ≡ Equal = sym first ∙ equal in
    absurd (cc)

-- What is known of an item that counts for a request of job j.
counted_for : (j : ℕ) (c : Class) (r : ChargedRequest) (item : ItemDef) → counts_for j c (Some r) item ≡ true
    → (item.blocked ≡ j) × (is_of item (Some r) ≡ true)
counted_for j c r item h =
    let one = and_parts _ _ h in
    let two = and_parts _ _ one.0 in
    (eqb-true _ _ two.0, one.1)

-- A request that has an item counts in one, with its class.
pub counts_once : (items : List ItemDef) (j : ℕ) (c : Class) (r : ChargedRequest) → IsStrictlySortedBy item_cmp items
    → (item : ItemDef) → Contains items item → item.blocked ≡ j → is_of item (Some r) ≡ true
    → count_below (length items) (λ k. counts_for j c (Some r) (item_at items k)) ≡ flag (is_same_class c r.class)
counts_once items j c r sorted item there own is =
    sum_below-one (length items) (λ k. flag (counts_for j c (Some r) (item_at items k))) there.0 there.1 others ∙ ap flag here where
      at : item_at items there.0 ≡ item
      at = get_or_default items there.0 no_item item there.1 ∙ there.2

      blocked_at : (item_at items there.0).blocked ≡ j
      blocked_at = ap (λ (i : ItemDef). i.blocked) at ∙ own

      is_at : is_of (item_at items there.0) (Some r) ≡ true
      is_at = ap (λ i. is_of i (Some r)) at ∙ is

      others : (k : ℕ) → k < length items → (k ≡ there.0 → ⊥) → flag (counts_for j c (Some r) (item_at items k)) ≡ 0
      others k l other = elim (cases_Bool (counts_for j c (Some r) (item_at items k))) [
        | inr out ↦ flag-of_false _ out
        | inl is_in ↦
            let known : ((item_at items k).blocked ≡ j) × (is_of (item_at items k) (Some r) ≡ true) =
            counted_for j c r (item_at items k) is_in in
            elim (cases_order k there.0) [
              | inl same ↦ absurd (other same)
              | inr apart ↦ elim apart [
                | inl before ↦ absurd (never_two r items k there.0 sorted before there.1 (known.0 ∙ sym blocked_at) known.1 is_at)
                | inr after ↦ absurd (never_two r items there.0 k sorted after l (blocked_at ∙ sym known.0) is_at known.1)
              ]
            ]
      ]

      same_class : r.class ≡ (item_at items there.0).class
      same_class = rank_one _ _ (request_parts r (item_at items there.0) is_at).class

      here : counts_for j c (Some r) (item_at items there.0) ≡ is_same_class c r.class
      here = rw (is_at, eq-eqb _ _ blocked_at, ← same_class) (with_true (is_same_class c r.class)) where
        with_true : (b : Bool) → (b && true) ≡ b
        with_true true = refl
        with_true false = refl

-- And for no request nothing counts.
pub counts_nowhere : (items : List ItemDef) (j : ℕ) (c : Class)
    → count_below (length items) (λ k. counts_for j c None (item_at items k)) ≡ 0
counts_nowhere items j c =
    count_below-none (length items) (λ k. counts_for j c None (item_at items k))
    (λ k l. and_right (((item_at items k).blocked == j) && is_same_class c (item_at items k).class) false refl)
