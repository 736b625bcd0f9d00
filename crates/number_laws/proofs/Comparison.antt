-- Comparisons over ℤ, and the total order of values over positive weights, by cross products.
use Rattle.std.proofs.Common.{◌≡◌, ◌⊎◌, inl, inr, ◌≤ℤ◌, ℤ, pos, ◌*ℤ◌, ◌<ℤ◌, ap, ap₂, ◌∙◌, sym, refl, arith}
use Rattle.std.specs.declared.cmp.Ordering.TheVariants.{Less, Equal, Greater}
use Rattle.std.specs.Ordering.{int_cmp}
use Rattle.std.specs.Cmp.{IsTotalOrder}
use Rattle.std.proofs.lemmas.Int.{ints, by_lt_z}
use Rattle.std.proofs.lemmas.Cmp.{int_ranked, by_ranked, int_cmp_total, tied_itself}
use lib.Signed.{clash_ℤ}
use Rattle.number_laws.proofs.Ring.{mul-swap_last}
use Rattle.number_laws.proofs.Order.{weaker, times_le, times_lt, cancel_le, cancel_lt}

pub below_of_less : (x y : ℤ) → int_cmp x y ≡ Less → x <ℤ y
below_of_less x y h = int_ranked x y Less (sym h)

pub same_of_equal : (x y : ℤ) → int_cmp x y ≡ Equal → x ≡ y
same_of_equal x y h = int_ranked x y Equal (sym h)

not_same : (x y : ℤ) → x <ℤ y → x ≡ y → ⊥
not_same x y p q = omega (arith, ints)

pub less_of_below : (x y : ℤ) → x <ℤ y → int_cmp x y ≡ Less
less_of_below x y h =
    by_ranked _ _ _ (int_cmp x y) (int_ranked x y (int_cmp x y) refl)
    (λ is lt. is)
    (λ is e. absurd (not_same x y h e))
    (λ is gt. clash_ℤ h (weaker gt))

pub greater_of_above : (x y : ℤ) → y <ℤ x → int_cmp x y ≡ Greater
greater_of_above x y h =
    by_ranked _ _ _ (int_cmp x y) (int_ranked x y (int_cmp x y) refl)
    (λ is lt. clash_ℤ lt (weaker h))
    (λ is e. absurd (not_same y x h (sym e)))
    (λ is gt. is)

pub equal_itself : (x : ℤ) → int_cmp x x ≡ Equal
equal_itself x = tied_itself int_cmp_total x

-- a positive factor changes no comparison
pub scaled_cmp : (x y k : ℤ) → pos 0 <ℤ k → int_cmp x y ≡ int_cmp (x *ℤ k) (y *ℤ k)
scaled_cmp x y k h =
    by_ranked _ _ _ (int_cmp x y) (int_ranked x y (int_cmp x y) refl)
    (λ is lt. is ∙ sym (less_of_below _ _ (times_lt x y k h lt)))
    (λ is e. is ∙ sym (ap (λ z. int_cmp (x *ℤ k) (z *ℤ k)) (sym e) ∙ equal_itself (x *ℤ k)))
    (λ is gt. is ∙ sym (greater_of_above _ _ (times_lt y x k h gt)))

-- of x / u < y / v and y / v < z / w follows x / u < z / w
pub chained : (x y z u v w : ℤ) → pos 0 <ℤ u → pos 0 <ℤ v → pos 0 <ℤ w → (x *ℤ v) <ℤ (y *ℤ u) → (y *ℤ w) <ℤ (z *ℤ v) → (x *ℤ w) <ℤ (z *ℤ u)
chained x y z u v w pu pv pw h k =
    let first : ((x *ℤ v) *ℤ w) <ℤ ((y *ℤ u) *ℤ w) = times_lt (x *ℤ v) (y *ℤ u) w pw h in
    let second : ((y *ℤ w) *ℤ u) <ℤ ((z *ℤ v) *ℤ u) = times_lt (y *ℤ w) (z *ℤ v) u pu k in
    let left : (x *ℤ v) *ℤ w ≡ (x *ℤ w) *ℤ v = mul-swap_last x v w in
    let mid : (y *ℤ u) *ℤ w ≡ (y *ℤ w) *ℤ u = mul-swap_last y u w in
    let right : (z *ℤ v) *ℤ u ≡ (z *ℤ u) *ℤ v = mul-swap_last z v u in
    cancel_lt (x *ℤ w) (z *ℤ u) v pv (joined _ _ _ _ _ _ left mid right first second)
  where
    joined : (a b c d e f : ℤ) → a ≡ b → c ≡ d → e ≡ f → a <ℤ c → d <ℤ e → b <ℤ f
    joined a b c d e f p q r s t = omega (arith, ints)

-- values num k / weight k, compared by cross products
pub cross_total : {K : Type 0} (num weight : K → ℤ) → ((k : K) → pos 0 <ℤ weight k)
    → IsTotalOrder (λ a b. int_cmp (num a *ℤ weight b) (num b *ℤ weight a))
cross_total num weight positive = record {
  antisymm = λ a b. int_cmp_total.antisymm (num a *ℤ weight b) (num b *ℤ weight a);
  trans = λ a b c p q. less_of_below _ _ (chained (num a) (num b) (num c) (weight a) (weight b) (weight c) (positive a)
      (positive b) (positive c) (below_of_less _ _ p) (below_of_less _ _ q));
  congr = λ a b c p.
      let same : num a *ℤ weight b ≡ num b *ℤ weight a = same_of_equal _ _ p in
      let left : (num a *ℤ weight c) *ℤ weight b ≡ (num b *ℤ weight c) *ℤ weight a = mul-swap_last (num a) (weight c)
      (weight b) ∙ (ap (λ z. z *ℤ weight c) same ∙ mul-swap_last (num b) (weight a) (weight c)) in
      let right : (num c *ℤ weight a) *ℤ weight b ≡ (num c *ℤ weight b) *ℤ weight a = mul-swap_last (num c) (weight a) (weight b) in
      scaled_cmp _ _ (weight b) (positive b) ∙ (ap₂ int_cmp left right ∙ sym (scaled_cmp _ _ (weight a) (positive a)));
}

-- of x / u ≤ y / v and y / v ≤ z / w follows x / u ≤ z / w
pub chained_le : (x y z u v w : ℤ) → pos 0 <ℤ u → pos 0 <ℤ v → pos 0 <ℤ w → (x *ℤ v) ≤ℤ (y *ℤ u) → (y *ℤ w) ≤ℤ (z *ℤ v)
    → (x *ℤ w) ≤ℤ (z *ℤ u)
chained_le x y z u v w pu pv pw h k =
    let first : ((x *ℤ v) *ℤ w) ≤ℤ ((y *ℤ u) *ℤ w) = times_le (x *ℤ v) (y *ℤ u) w (weaker pw) h in
    let second : ((y *ℤ w) *ℤ u) ≤ℤ ((z *ℤ v) *ℤ u) = times_le (y *ℤ w) (z *ℤ v) u (weaker pu) k in
    cancel_le (x *ℤ w) (z *ℤ u) v pv (joined _ _ _ _ _ _ (mul-swap_last x v w) (mul-swap_last y u w) (mul-swap_last z v u) first second)
  where
    joined : (a b c d e f : ℤ) → a ≡ b → c ≡ d → e ≡ f → a ≤ℤ c → d ≤ℤ e → b ≤ℤ f
    joined a b c d e f p q r s t = omega (arith, ints)

pub le_either : (x y : ℤ) → (x ≤ℤ y) ⊎ (y ≤ℤ x)
le_either x y = by_lt_z x y (λ lt. inl (weaker lt)) (λ le. inr le)
