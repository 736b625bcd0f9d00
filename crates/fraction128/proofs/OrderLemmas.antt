-- What the code's comparisons of cross products say of two values.
use Rattle.std.proofs.Common.{◌⊎◌, inl, inr, ◌≡◌, ℕ, ◌<◌, max, ℤ, pos, negsuc, ◌*ℤ◌, ◌≤ℤ◌, ◌<ℤ◌, IsTrue, ap, ap₂, ◌∙◌}
use Rattle.std.proofs.Common.{sym, subst, arith, ◌↔◌}
use lib.Signed.{le_z}
use borrow.Author.Differences.{true_is_le, le_out}
use Rattle.std.specs.declared.cmp.Ordering.{Ordering}
use Rattle.std.specs.declared.cmp.Ordering.TheVariants.{Less, Equal, Greater}
use Rattle.std.specs.Ordering.{MatchOrdering, int_cmp, ordering_then}
use Rattle.std.proofs.lemmas.Int.{ints}
use Rattle.std.proofs.lemmas.Cmp.{int_ranked, by_ranked, tied_itself}
use Rattle.number_laws.proofs.Order.{same_of_both}
use Rattle.number_laws.proofs.Comparison.{chained_le, le_either}
use Rattle.fraction128.specs.Fraction.{Fraction, IsForm, IsAtMost, IsBelow}
use Rattle.fraction128.specs.Order.{weight_of, cross_cmp, parts_cmp, value_cmp}
use Rattle.fraction128.specs.OrderLaws.{parts_are_total}
use Rattle.fraction128.proofs.Unique.{same_form}

weight-positive : (d : ℤ) → pos 0 <ℤ d → weight_of d ≡ d
weight-positive (pos n) h = ap pos (most n (above n h))
  where
    above : (m : ℕ) → pos 0 <ℤ pos m → 0 < m
    above m p = omega (arith, ints)

    most : (m : ℕ) → 0 < m → max 1 m ≡ m
    most m p = omega arith
weight-positive (negsuc n) h = absurd (omega (arith, ints))

-- what the comparison of the cross products says of two values
pub by_value_of : (a b : Fraction) (x y : ℤ) (r : Ordering) → IsForm a → IsForm b → x ≡ a.num *ℤ b.den
    → y ≡ b.num *ℤ a.den → MatchOrdering r (x <ℤ y) (x ≡ y) (y <ℤ x)
    → MatchOrdering r (IsBelow a b) (a ≡ b) (IsBelow b a)
by_value_of a b x y Less fa fb p q h = record { lt = subst (λ (z : ℤ). z <ℤ (b.num *ℤ a.den)) p (subst (λ (z : ℤ). x <ℤ z) q h) }
by_value_of a b x y Equal fa fb p q h = same_form a b fa fb (sym p ∙ (h ∙ q))
by_value_of a b x y Greater fa fb p q h = record { lt = subst (λ (z : ℤ). z <ℤ (a.num *ℤ b.den)) q (subst (λ (z : ℤ). y <ℤ z) p h) }

-- and that it is the order by value
pub order_of : (a b : Fraction) (r : Ordering) → IsForm a → IsForm b → r ≡ int_cmp (a.num *ℤ b.den) (b.num *ℤ a.den) → r ≡ value_cmp a b
order_of a b r fa fb e =
    let cross : cross_cmp a b ≡ r = ap₂ (λ u v. int_cmp (a.num *ℤ u) (b.num *ℤ v)) (weight-positive b.den fb.positive)
    (weight-positive a.den fa.positive) ∙ sym e in
    by_ranked _ _ _ r (int_ranked _ _ r e)
    (λ is lt. is ∙ sym (ap (λ o. ordering_then o (parts_cmp a b)) (cross ∙ is)))
    (λ is same. is ∙ sym (ap (λ o. ordering_then o (parts_cmp a b)) (cross ∙ is)
    ∙ (ap (λ f. parts_cmp a f) (sym (same_form a b fa fb same)) ∙ tied_itself parts_are_total a)))
    (λ is gt. is ∙ sym (ap (λ o. ordering_then o (parts_cmp a b)) (cross ∙ is)))

-- what the test of the cross products says
pub at_most_is : (a b : Fraction) (x y : ℤ) → x ≡ a.num *ℤ b.den → y ≡ b.num *ℤ a.den → IsTrue (le_z x y) ↔ IsAtMost a b
at_most_is a b x y p q =
    rw (p, q) (λ h. record { le = at_most_of _ _ h }, λ h. true_of _ _ h.le)
  where
    at_most_of : (u v : ℤ) → IsTrue (le_z u v) → u ≤ℤ v
    at_most_of u v h = omega (arith, ints)

    true_of : (u v : ℤ) → u ≤ℤ v → IsTrue (le_z u v)
    true_of u v h = sym (true_is_le u v (le_out u v h))

-- at most is a total order of the fractions that have a form
pub at_most_trans : (a b c : Fraction) → IsForm a → IsForm b → IsForm c → IsAtMost a b → IsAtMost b c → IsAtMost a c
at_most_trans a b c fa fb fc h k =
    record { le = chained_le a.num b.num c.num a.den b.den c.den fa.positive fb.positive fc.positive h.le k.le }

pub at_most_either : (a b : Fraction) → IsAtMost a b ⊎ IsAtMost b a
at_most_either a b =
    elim (le_either (a.num *ℤ b.den) (b.num *ℤ a.den)) [ inl h ↦ inl (record { le = h }) | inr h ↦ inr (record { le = h }) ]

pub at_most_both : (a b : Fraction) → IsForm a → IsForm b → IsAtMost a b → IsAtMost b a → a ≡ b
at_most_both a b fa fb h k = same_form a b fa fb (same_of_both _ _ h.le k.le)
