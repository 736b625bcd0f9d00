-- The order of places: it is total, tells all places apart, and gives that of the table.
use Rattle.std.proofs.Common.{◌≡◌, ℕ, ◌==◌, ◌&&◌, true, false, inl, inr, List, [], ◌∷◌, map, refl, sym, ap, ◌∙◌}
use Rattle.std.specs.List.{AllByRecursion}
use Rattle.std.specs.List.Sorted.{IsStrictlySortedBy}
use Rattle.std.specs.Map.{keys_of}
use Rattle.std.specs.Cmp.{IsTotalOrder}
use Rattle.std.specs.Ordering.{nat_cmp, ordering_then, eq_by_cmp, is_eq}
use Rattle.std.specs.declared.cmp.Ordering.{Ordering}
use Rattle.std.specs.declared.cmp.Ordering.TheVariants.{Less, Equal, Greater}
use Rattle.std.proofs.lemmas.Bool.{cases_eq, eq-eqb, ne_eqb}
use Rattle.std.proofs.lemmas.Cmp.{nat_cmp_total, on_total, then_total, tied_itself}
use Rattle.std.proofs.lemmas.Map.Lookups.{CmpEqualImpliesEq, exact_unsigned}
use Rattle.schedule_model.specs.RowDef.{Trace}
use Rattle.schedule_model.specs.Phase.{phase_of}
use Rattle.schedule_model.specs.Phase.Phase.{Asking}
use Rattle.schedule_laws.proofs.Ticks.{one_resource}
use Rattle.blocking_columns.specs.ClassOrder.{class_rank, class_cmp}
use Rattle.blocking_columns.specs.contracts.columns.ClassOrd.TheImpl.Laws as class_laws
use Rattle.blocking_columns.specs.declared.columns.Class.{Class}
use Rattle.blocking_columns.specs.declared.columns.Class.TheVariants.{Direct, Indirect, Preemption}
use Rattle.charge.specs.declared.tally.ChargePlace.{ChargePlace}
use Rattle.charge.specs.Table.{item_cmp}
use Rattle.charge.specs.Tally.{place_cmp, by_class, is_same_place, item_of}

-- As keys, classes are in the order of their ranks.
classes_ordered : (a b : Class) → by_class a b ≡ class_cmp a b
classes_ordered Direct Direct = refl
classes_ordered Direct Indirect = refl
classes_ordered Direct Preemption = refl
classes_ordered Indirect Direct = refl
classes_ordered Indirect Indirect = refl
classes_ordered Indirect Preemption = refl
classes_ordered Preemption Direct = refl
classes_ordered Preemption Indirect = refl
classes_ordered Preemption Preemption = refl

-- And no two have one rank.
pub rank_one : (a b : Class) → class_rank a ≡ class_rank b → a ≡ b
rank_one Direct Direct e = refl
rank_one Direct Indirect e = absurd (cc)
rank_one Direct Preemption e = absurd (cc)
rank_one Indirect Direct e = absurd (cc)
rank_one Indirect Indirect e = refl
rank_one Indirect Preemption e = absurd (cc)
rank_one Preemption Direct e = absurd (cc)
rank_one Preemption Indirect e = absurd (cc)
rank_one Preemption Preemption e = refl

exact_classes : CmpEqualImpliesEq by_class
exact_classes a b h = rank_one a b (exact_unsigned _ _ (sym (classes_ordered a b) ∙ h))

pub places_total : IsTotalOrder place_cmp
places_total =
    then_total (on_total (λ p. p.blocked) nat_cmp_total) (then_total (on_total (λ p. p.blocker) nat_cmp_total)
    (then_total (on_total (λ p. p.request) nat_cmp_total)
    (then_total (on_total (λ p. p.resource) nat_cmp_total) (on_total (λ p. p.class) class_laws.total-law))))

exact_places : CmpEqualImpliesEq place_cmp
exact_places a b h =
    let one : (nat_cmp a.blocked b.blocked ≡ Equal) × (_ ≡ Equal) = both _ _ h in
    let two : (nat_cmp a.blocker b.blocker ≡ Equal) × (_ ≡ Equal) = both _ _ one.1 in
    let three : (nat_cmp a.request b.request ≡ Equal) × (_ ≡ Equal) = both _ _ two.1 in
    let four : (nat_cmp a.resource b.resource ≡ Equal) × (by_class a.class b.class ≡ Equal) = both _ _ three.1 in
    joined a b (exact_unsigned _ _ one.0) (exact_unsigned _ _ two.0) (exact_unsigned _ _ three.0) (exact_unsigned _ _ four.0)
    (exact_classes _ _ four.1) where
      both : (x y : Ordering) → ordering_then x y ≡ Equal → (x ≡ Equal) × (y ≡ Equal)
      both Less y e = absurd (cc)
      both Equal y e = (refl, e)
      both Greater y e = absurd (cc)

      joined : (a b : ChargePlace) → a.blocked ≡ b.blocked → a.blocker ≡ b.blocker → a.request ≡ b.request → a.resource ≡ b.resource
          → a.class ≡ b.class → a ≡ b
      joined a b e f g h i =
          ap (λ x. made x a.blocker a.request a.resource a.class) e ∙ ap (λ x. made b.blocked x a.request a.resource a.class) f
          ∙ ap (λ x. made b.blocked b.blocker x a.resource a.class) g ∙ ap (λ x. made b.blocked b.blocker b.request x a.class) h
          ∙ ap (λ x. made b.blocked b.blocker b.request b.resource x) i where
            made : ℕ → ℕ → ℕ → ℕ → Class → ChargePlace
            made x y m q c = record { blocked = x; blocker = y; request = m; resource = q; class = c }

pub same_by_order : (a b : ChargePlace) → eq_by_cmp place_cmp a b ≡ true → a ≡ b
same_by_order a b h = exact_places a b (equal (place_cmp a b) h) where
  equal : (o : Ordering) → is_eq o ≡ true → o ≡ Equal
  equal Less e = absurd (cc)
  equal Equal e = refl
  equal Greater e = absurd (cc)

-- Two places are one where each part of them is.
pub same_place : (a b : ChargePlace) → is_eq (place_cmp a b) ≡ is_same_place a b
same_place a b =
    parts (nat_cmp a.blocked b.blocked) (nat_cmp a.blocker b.blocker) (nat_cmp a.request b.request) (nat_cmp a.resource b.resource)
    (by_class a.class b.class)
    ∙ rw (
      equal_is a.blocked b.blocked,
      equal_is a.blocker b.blocker,
      equal_is a.request b.request,
      equal_is a.resource b.resource,
      classes_ordered a.class b.class,
      equal_is (class_rank a.class) (class_rank b.class),
    ) refl where
      parts : (x y z v u : Ordering) → is_eq (ordering_then x (ordering_then y (ordering_then z (ordering_then v u))))
          ≡ (is_eq x && (is_eq y && (is_eq z && (is_eq v && is_eq u))))
      parts Less y z v u = refl
      parts Greater y z v u = refl
      parts Equal Less z v u = refl
      parts Equal Greater z v u = refl
      parts Equal Equal Less v u = refl
      parts Equal Equal Greater v u = refl
      parts Equal Equal Equal Less u = refl
      parts Equal Equal Equal Greater u = refl
      parts Equal Equal Equal Equal u = refl

      equal_is : (x y : ℕ) → is_eq (nat_cmp x y) ≡ (x == y)
      equal_is x y = elim (cases_eq x y) [
        | inl same ↦ rw (same, tied_itself nat_cmp_total y, eq-eqb y y refl) refl
        | inr apart ↦ not_equal (nat_cmp x y) (λ e. apart (exact_unsigned x y e)) ∙ sym (ne_eqb x y apart)
      ] where
        not_equal : (o : Ordering) → (o ≡ Equal → ⊥) → is_eq o ≡ false
        not_equal Less h = refl
        not_equal Equal h = absurd (h refl)
        not_equal Greater h = refl

pub same_itself : (p : ChargePlace) → is_same_place p p ≡ true
same_itself p =
    rw (
      eq-eqb p.blocked p.blocked refl,
      eq-eqb p.blocker p.blocker refl,
      eq-eqb p.request p.request refl,
      eq-eqb p.resource p.resource refl,
      eq-eqb (class_rank p.class) (class_rank p.class) refl,
    ) refl

-- What is known of a place to which a tick was counted.
pub record Known (w : Trace) (e : ChargePlace × ℕ) : Type 0 where
  pub tick : ℕ
  pub request : phase_of w tick e.0.blocker ≡ Asking e.0.request e.0.resource

skip : (x y z v u : Ordering) → (x ≡ Equal → y ≡ Equal → z ≡ Equal → v ≡ Equal)
    → ordering_then x (ordering_then y (ordering_then z (ordering_then v u))) ≡ Less
    → ordering_then x (ordering_then y (ordering_then z u)) ≡ Less
skip Less y z v u same h = refl
skip Greater y z v u same h = absurd (cc)
skip Equal Less z v u same h = refl
skip Equal Greater z v u same h = absurd (cc)
skip Equal Equal Less v u same h = refl
skip Equal Equal Greater v u same h = absurd (cc)
skip Equal Equal Equal v u same h = rw (same refl refl refl) at h

-- A request has one resource, so the order of two places is that of their items.
before : (w : Trace) (a b : ChargePlace × ℕ) → Known w a → Known w b → place_cmp a.0 b.0 ≡ Less → item_cmp (item_of a) (item_of b) ≡ Less
before w a b ka kb h =
    rw (← classes_ordered a.0.class b.0.class) (skip (nat_cmp a.0.blocked b.0.blocked) (nat_cmp a.0.blocker b.0.blocker)
    (nat_cmp a.0.request b.0.request) (nat_cmp a.0.resource b.0.resource) (by_class a.0.class b.0.class) one h) where
      one : nat_cmp a.0.blocked b.0.blocked ≡ Equal → nat_cmp a.0.blocker b.0.blocker ≡ Equal → nat_cmp a.0.request b.0.request ≡ Equal
          → nat_cmp a.0.resource b.0.resource ≡ Equal
      one x y z =
          let same : a.0.blocker ≡ b.0.blocker = exact_unsigned _ _ y in
          let number : a.0.request ≡ b.0.request = exact_unsigned _ _ z in
          let there : phase_of w kb.tick a.0.blocker ≡ Asking a.0.request b.0.resource =
          ap (phase_of w kb.tick) same ∙ kb.request ∙ ap (λ n. Asking n b.0.resource) (sym number) in
          let resource : a.0.resource ≡ b.0.resource =
          one_resource w ka.tick kb.tick a.0.blocker a.0.request a.0.resource b.0.resource ka.request there in
          ap (λ q. nat_cmp q b.0.resource) resource ∙ tied_itself nat_cmp_total b.0.resource

all_after : (w : Trace) (a : ChargePlace × ℕ) (es : List (ChargePlace × ℕ)) → Known w a → AllByRecursion (Known w) es
    → AllByRecursion (λ k. place_cmp a.0 k ≡ Less) (keys_of es) → AllByRecursion (λ i. item_cmp (item_of a) i ≡ Less) (map item_of es)
all_after w a [] ka ks h = tt
all_after w a (e ∷ es) ka ks h = (before w a e ka ks.0 h.0, all_after w a es ka ks.1 h.1)

-- So what is in the order of places is in that of the table.
pub table_sorted : (w : Trace) (es : List (ChargePlace × ℕ)) → AllByRecursion (Known w) es → IsStrictlySortedBy place_cmp (keys_of es)
    → IsStrictlySortedBy item_cmp (map item_of es)
unfolding IsStrictlySortedBy
table_sorted w [] ks h = tt
table_sorted w (e ∷ es) ks h = (all_after w e es ks.0 ks.1 h.0, table_sorted w es ks.1 h.1)
