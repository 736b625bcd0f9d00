-- Fractions as whole numbers over one denominator, with no division: what each operation on fractions makes of those numbers.
use Rattle.std.proofs.Common.{◌≡◌, ℤ, pos, ◌-ℤ◌, ◌*ℤ◌, neg_ℤ, ◌≤ℤ◌, ◌<ℤ◌, ap, ◌∙◌, sym, arith}
use Rattle.std.proofs.lemmas.Int.{ints}
use Rattle.number_laws.proofs.Ring.{as_diff, diffs, same_diff, by_one, by_three, mul-neg_left, zero-mul}
use Rattle.number_laws.proofs.Order.{times_positive, times_le, times_lt, cancel, cancel_le, cancel_lt, weaker}
use Rattle.fraction128.specs.Fraction.{Fraction, IsQuotient, IsProduct, IsDifference, IsAtMost, over, whole}

-- Is f the value x / d, over a denominator above zero?
pub record Shows (d x : ℤ) (f : Fraction) : Type 0 where
  pub same : f.num *ℤ d ≡ x *ℤ f.den
  pub positive : pos 0 <ℤ f.den

pub shows_whole : (n : ℤ) → Shows (pos 1) n (whole n)
shows_whole n = record { same = omega (arith, ints); positive = omega (arith, ints) }

-- Both numbers may be multiplied.
pub shows_times : (c d x : ℤ) (f : Fraction) → Shows d x f → Shows (c *ℤ d) (c *ℤ x) f
shows_times c d x f h = record { same = times_ring f.num f.den d x c h.same; positive = h.positive }
  where
    times_ring : (a b y z k : ℤ) → a *ℤ y ≡ z *ℤ b → a *ℤ (k *ℤ y) ≡ (k *ℤ z) *ℤ b
    times_ring a b y z k e =
        by_one k e _ _ (rw (as_diff a, as_diff b, as_diff y, as_diff z, as_diff k) (simp diffs (same_diff _ _ _ _ (omega arith))))

pub shows_at : (d b x y : ℤ) (f : Fraction) → d ≡ b → x ≡ y → Shows d x f → Shows b y f
shows_at d b x y f p q h = rw (sym p, sym q) h

pub shows_minus : (d x : ℤ) (f : Fraction) → Shows d x f → Shows d (neg_ℤ x) (over (neg_ℤ f.num) f.den)
shows_minus d x f h = record {
  same = mul-neg_left f.num d ∙ (ap neg_ℤ h.same ∙ sym (mul-neg_left x f.den));
  positive = h.positive;
}

quotient_ring : (an ad bn bd cn cd d x q : ℤ) → cn *ℤ (ad *ℤ bn) ≡ (an *ℤ bd) *ℤ cd → bn *ℤ d ≡ q *ℤ bd → an *ℤ d ≡ x *ℤ ad
    → (cn *ℤ q) *ℤ (ad *ℤ bd) ≡ (x *ℤ cd) *ℤ (ad *ℤ bd)
quotient_ring an ad bn bd cn cd d x q h k j =
    by_three d h (neg_ℤ (cn *ℤ ad)) k (bd *ℤ cd) j _ _
    (rw (as_diff an, as_diff ad, as_diff bn, as_diff bd, as_diff cn, as_diff cd, as_diff d, as_diff x, as_diff q)
    (simp diffs (same_diff _ _ _ _ (omega arith))))

-- x / d over q / d is x / q.
pub shows_quotient : (d x q : ℤ) (a b c : Fraction) → Shows d x a → Shows d q b → pos 0 <ℤ c.den → IsQuotient a b c → Shows q x c
shows_quotient d x q a b c ha hb positive h = record {
  same = cancel (c.num *ℤ q) (x *ℤ c.den) (a.den *ℤ b.den) (times_positive a.den b.den ha.positive hb.positive)
      (quotient_ring a.num a.den b.num b.den c.num c.den d x q h.same hb.same ha.same);
  positive = positive;
}

product_ring : (an ad cn cd fn fd d x b y : ℤ) → fn *ℤ (ad *ℤ cd) ≡ (an *ℤ cn) *ℤ fd → an *ℤ d ≡ x *ℤ ad → cn *ℤ b ≡ y *ℤ cd
    → (fn *ℤ (d *ℤ b)) *ℤ (ad *ℤ cd) ≡ ((x *ℤ y) *ℤ fd) *ℤ (ad *ℤ cd)
product_ring an ad cn cd fn fd d x b y h k j =
    by_three (d *ℤ b) h ((b *ℤ cn) *ℤ fd) k ((x *ℤ ad) *ℤ fd) j _ _
    (rw
    (as_diff an, as_diff ad, as_diff cn, as_diff cd, as_diff fn, as_diff fd, as_diff d, as_diff x, as_diff b, as_diff y)
    (simp diffs (same_diff _ _ _ _ (omega arith))))

-- x / d times y / b is x y / (d b).
pub shows_product : (d x b y : ℤ) (a c f : Fraction) → Shows d x a → Shows b y c → pos 0 <ℤ f.den → IsProduct a c f
    → Shows (d *ℤ b) (x *ℤ y) f
shows_product d x b y a c f ha hc positive h = record {
  same = cancel (f.num *ℤ (d *ℤ b)) ((x *ℤ y) *ℤ f.den) (a.den *ℤ c.den) (times_positive a.den c.den ha.positive hc.positive)
      (product_ring a.num a.den c.num c.den f.num f.den d x b y h.same ha.same hc.same);
  positive = positive;
}

difference_ring : (an ad cn cd fn fd d x y : ℤ) → fn *ℤ (ad *ℤ cd) ≡ ((an *ℤ cd) -ℤ (cn *ℤ ad)) *ℤ fd
    → an *ℤ d ≡ x *ℤ ad → cn *ℤ d ≡ y *ℤ cd
    → (fn *ℤ d) *ℤ (ad *ℤ cd) ≡ ((x -ℤ y) *ℤ fd) *ℤ (ad *ℤ cd)
difference_ring an ad cn cd fn fd d x y h k j =
    by_three d h (cd *ℤ fd) k (neg_ℤ (ad *ℤ fd)) j _ _
    (rw (as_diff an, as_diff ad, as_diff cn, as_diff cd, as_diff fn, as_diff fd, as_diff d, as_diff x, as_diff y)
    (simp diffs (same_diff _ _ _ _ (omega arith))))

-- x / d less y / d is (x - y) / d.
pub shows_difference : (d x y : ℤ) (a c f : Fraction) → Shows d x a → Shows d y c → pos 0 <ℤ f.den → IsDifference a c f → Shows d (x -ℤ y) f
shows_difference d x y a c f ha hc positive h = record {
  same = cancel (f.num *ℤ d) ((x -ℤ y) *ℤ f.den) (a.den *ℤ c.den) (times_positive a.den c.den ha.positive hc.positive)
      (difference_ring a.num a.den c.num c.den f.num f.den d x y h.same ha.same hc.same);
  positive = positive;
}

below_of : (x y u v : ℤ) → x ≡ u → y ≡ v → x <ℤ y → u <ℤ v
below_of x y u v p q h = omega (arith, ints)

at_most_of : (x y u v : ℤ) → x ≡ u → y ≡ v → x ≤ℤ y → u ≤ℤ v
at_most_of x y u v p q h = omega (arith, ints)

-- A fraction above zero has a number above zero, and the other way round.
pub shows_above : (d x : ℤ) (f : Fraction) → pos 0 <ℤ d → Shows d x f → pos 0 <ℤ f.num → pos 0 <ℤ x
shows_above d x f pd h above =
    cancel_lt (pos 0) x f.den h.positive
    (below_of _ _ _ _ (zero-mul d ∙ sym (zero-mul f.den)) h.same (times_lt (pos 0) f.num d pd above))

pub above_shown : (d x : ℤ) (f : Fraction) → pos 0 <ℤ d → Shows d x f → pos 0 <ℤ x → pos 0 <ℤ f.num
above_shown d x f pd h above =
    cancel_lt (pos 0) f.num d pd
    (below_of _ _ _ _ (zero-mul f.den ∙ sym (zero-mul d)) (sym h.same) (times_lt (pos 0) x f.den h.positive above))

pub shows_at_most_zero : (d x : ℤ) (f : Fraction) → pos 0 <ℤ d → Shows d x f → f.num ≤ℤ pos 0 → x ≤ℤ pos 0
shows_at_most_zero d x f pd h below =
    cancel_le x (pos 0) f.den h.positive
    (at_most_of _ _ _ _ h.same (zero-mul d ∙ sym (zero-mul f.den)) (times_le f.num (pos 0) d (weaker pd) below))

pub at_least_zero_shown : (d x : ℤ) (f : Fraction) → pos 0 <ℤ d → Shows d x f → pos 0 ≤ℤ x → pos 0 ≤ℤ f.num
at_least_zero_shown d x f pd h above =
    cancel_le (pos 0) f.num d pd
    (at_most_of _ _ _ _ (zero-mul f.den ∙ sym (zero-mul d)) (sym h.same)
    (times_le (pos 0) x f.den (weaker h.positive) above))

at_most_left : (fn fd gd d x b : ℤ) → fn *ℤ d ≡ x *ℤ fd → (fn *ℤ gd) *ℤ (d *ℤ b) ≡ (x *ℤ b) *ℤ (fd *ℤ gd)
at_most_left fn fd gd d x b h =
    by_one (gd *ℤ b) h _ _ (rw (as_diff fn, as_diff fd, as_diff gd, as_diff d, as_diff x, as_diff b)
    (simp diffs (same_diff _ _ _ _ (omega arith))))

at_most_right : (fd gn gd d b y : ℤ) → gn *ℤ b ≡ y *ℤ gd → (gn *ℤ fd) *ℤ (d *ℤ b) ≡ (y *ℤ d) *ℤ (fd *ℤ gd)
at_most_right fd gn gd d b y h =
    by_one (fd *ℤ d) h _ _ (rw (as_diff fd, as_diff gn, as_diff gd, as_diff d, as_diff b, as_diff y)
    (simp diffs (same_diff _ _ _ _ (omega arith))))

-- x / d at most y / b is x b at most y d.
pub shows_at_most : (d x b y : ℤ) (f g : Fraction) → pos 0 <ℤ d → pos 0 <ℤ b → Shows d x f → Shows b y g → IsAtMost f g
    → (x *ℤ b) ≤ℤ (y *ℤ d)
shows_at_most d x b y f g pd pb hf hg h =
    cancel_le (x *ℤ b) (y *ℤ d) (f.den *ℤ g.den) (times_positive f.den g.den hf.positive hg.positive)
    (at_most_of _ _ _ _ (at_most_left f.num f.den g.den d x b hf.same) (at_most_right f.den g.num g.den d b y hg.same)
    (times_le (f.num *ℤ g.den) (g.num *ℤ f.den) (d *ℤ b) (weaker (times_positive d b pd pb)) h.le))

-- And the other way round.
pub at_most_shown : (d x b y : ℤ) (f g : Fraction) → pos 0 <ℤ d → pos 0 <ℤ b → Shows d x f → Shows b y g
    → (x *ℤ b) ≤ℤ (y *ℤ d) → IsAtMost f g
at_most_shown d x b y f g pd pb hf hg h = record {
  le = cancel_le (f.num *ℤ g.den) (g.num *ℤ f.den) (d *ℤ b) (times_positive d b pd pb)
      (at_most_of _ _ _ _ (sym (at_most_left f.num f.den g.den d x b hf.same)) (sym (at_most_right f.den g.num g.den d b y hg.same))
      (times_le (x *ℤ b) (y *ℤ d) (f.den *ℤ g.den) (weaker (times_positive f.den g.den hf.positive hg.positive)) h));
}
