-- What an operation makes of fractions, it makes of their lowest terms.
use Rattle.std.proofs.Common.{◌≡◌, ℤ, pos, ◌-ℤ◌, ◌*ℤ◌, neg_ℤ, ◌<ℤ◌, arith}
use Rattle.number_laws.proofs.Ring.{as_diff, diffs, same_diff, by_three, mul-comm}
use Rattle.number_laws.proofs.Order.{times_positive, cancel}
use Rattle.fraction128.specs.Fraction.{Fraction, IsQuotient, IsProduct, IsDifference, IsAtMost}
use Rattle.exchange_runs.proofs.Shown.{Shows, shows_times, shows_at, shows_at_most, at_most_shown}
use Rattle.exchange_runs.specs.SmallRuns.{IsLowestOf}
use Rattle.exchange_runs.proofs.SmallLowest.{lowest_shows, lowest_shown}

quotient_ring : (an ad bn bd cn cd d x q : ℤ) → an *ℤ d ≡ x *ℤ ad → bn *ℤ d ≡ q *ℤ bd → cn *ℤ q ≡ x *ℤ cd
    → (cn *ℤ (ad *ℤ bn)) *ℤ (q *ℤ d) ≡ ((an *ℤ bd) *ℤ cd) *ℤ (q *ℤ d)
quotient_ring an ad bn bd cn cd d x q h k j =
    by_three (neg_ℤ ((bd *ℤ cd) *ℤ q)) h ((x *ℤ cd) *ℤ ad) k (ad *ℤ (bn *ℤ d)) j _ _
    (rw (as_diff an, as_diff ad, as_diff bn, as_diff bd, as_diff cn, as_diff cd, as_diff d, as_diff x, as_diff q)
    (simp diffs (same_diff _ _ _ _ (omega arith))))

-- x / q is x / d over q / d.
quotient_shown : (d x q : ℤ) (a b c : Fraction) → pos 0 <ℤ d → pos 0 <ℤ q → Shows d x a → Shows d q b → Shows q x c → IsQuotient a b c
quotient_shown d x q a b c pd pq ha hb hc = record {
  same = cancel (c.num *ℤ (a.den *ℤ b.num)) ((a.num *ℤ b.den) *ℤ c.den) (q *ℤ d) (times_positive q d pq pd)
      (quotient_ring a.num a.den b.num b.den c.num c.den d x q ha.same hb.same hc.same);
}

product_ring : (an ad bn bd cn cd d x e y : ℤ) → an *ℤ d ≡ x *ℤ ad → bn *ℤ e ≡ y *ℤ bd → cn *ℤ (d *ℤ e) ≡ (x *ℤ y) *ℤ cd
    → (cn *ℤ (ad *ℤ bd)) *ℤ (d *ℤ e) ≡ ((an *ℤ bn) *ℤ cd) *ℤ (d *ℤ e)
product_ring an ad bn bd cn cd d x e y h k j =
    by_three (neg_ℤ ((bn *ℤ e) *ℤ cd)) h (neg_ℤ ((x *ℤ ad) *ℤ cd)) k (ad *ℤ bd) j _ _
    (rw
    (as_diff an, as_diff ad, as_diff bn, as_diff bd, as_diff cn, as_diff cd, as_diff d, as_diff x, as_diff e, as_diff y)
    (simp diffs (same_diff _ _ _ _ (omega arith))))

-- x / d times y / e is x y / (d e).
product_shown : (d x e y : ℤ) (a b c : Fraction) → pos 0 <ℤ d → pos 0 <ℤ e → Shows d x a → Shows e y b
    → Shows (d *ℤ e) (x *ℤ y) c → IsProduct a b c
product_shown d x e y a b c pd pe ha hb hc = record {
  same = cancel (c.num *ℤ (a.den *ℤ b.den)) ((a.num *ℤ b.num) *ℤ c.den) (d *ℤ e) (times_positive d e pd pe)
      (product_ring a.num a.den b.num b.den c.num c.den d x e y ha.same hb.same hc.same);
}

difference_ring : (an ad bn bd cn cd d x e y : ℤ) → an *ℤ d ≡ x *ℤ ad → bn *ℤ e ≡ y *ℤ bd
    → cn *ℤ (d *ℤ e) ≡ ((x *ℤ e) -ℤ (y *ℤ d)) *ℤ cd
    → (cn *ℤ (ad *ℤ bd)) *ℤ (d *ℤ e) ≡ (((an *ℤ bd) -ℤ (bn *ℤ ad)) *ℤ cd) *ℤ (d *ℤ e)
difference_ring an ad bn bd cn cd d x e y h k j =
    by_three (neg_ℤ ((e *ℤ bd) *ℤ cd)) h ((d *ℤ ad) *ℤ cd) k (ad *ℤ bd) j _ _
    (rw
    (as_diff an, as_diff ad, as_diff bn, as_diff bd, as_diff cn, as_diff cd, as_diff d, as_diff x, as_diff e, as_diff y)
    (simp diffs (same_diff _ _ _ _ (omega arith))))

-- x / d less y / e is (x e - y d) / (d e).
difference_shown : (d x e y : ℤ) (a b c : Fraction) → pos 0 <ℤ d → pos 0 <ℤ e → Shows d x a → Shows e y b
    → Shows (d *ℤ e) ((x *ℤ e) -ℤ (y *ℤ d)) c → IsDifference a b c
difference_shown d x e y a b c pd pe ha hb hc = record {
  same = cancel (c.num *ℤ (a.den *ℤ b.den)) (((a.num *ℤ b.den) -ℤ (b.num *ℤ a.den)) *ℤ c.den) (d *ℤ e) (times_positive d e pd pe)
      (difference_ring a.num a.den b.num b.den c.num c.den d x e y ha.same hb.same hc.same);
}

pub quotient_lowest : (a b c f g h : Fraction) → pos 0 <ℤ b.num → IsLowestOf a f → IsLowestOf b g → IsLowestOf c h
    → IsQuotient a b c → IsQuotient f g h
quotient_lowest a b c f g h above of_a of_b of_c is =
    let over_both : Shows (a.den *ℤ b.den) (a.num *ℤ b.den) f
    = shows_at _ _ _ _ f (mul-comm b.den a.den) (mul-comm b.den a.num) (shows_times b.den a.den a.num f (lowest_shows a f of_a)) in
    quotient_shown (a.den *ℤ b.den) (a.num *ℤ b.den) (a.den *ℤ b.num) f g h
    (times_positive a.den b.den of_a.positive of_b.positive) (times_positive a.den b.num of_a.positive above)
    over_both (shows_times a.den b.den b.num g (lowest_shows b g of_b))
    (lowest_shown (a.den *ℤ b.num) (a.num *ℤ b.den) c h (record { same = is.same; positive = of_c.positive }) of_c)

pub product_lowest : (a b c f g h : Fraction) → IsLowestOf a f → IsLowestOf b g → IsLowestOf c h → IsProduct a b c → IsProduct f g h
product_lowest a b c f g h of_a of_b of_c is =
    product_shown a.den a.num b.den b.num f g h of_a.positive of_b.positive (lowest_shows a f of_a) (lowest_shows b g of_b)
    (lowest_shown (a.den *ℤ b.den) (a.num *ℤ b.num) c h (record { same = is.same; positive = of_c.positive }) of_c)

pub difference_lowest : (a b c f g h : Fraction) → IsLowestOf a f → IsLowestOf b g → IsLowestOf c h → IsDifference a b c
    → IsDifference f g h
difference_lowest a b c f g h of_a of_b of_c is =
    difference_shown a.den a.num b.den b.num f g h of_a.positive of_b.positive (lowest_shows a f of_a) (lowest_shows b g of_b)
    (lowest_shown (a.den *ℤ b.den) ((a.num *ℤ b.den) -ℤ (b.num *ℤ a.den)) c h
    (record { same = is.same; positive = of_c.positive }) of_c)

-- Their order is the same, both ways.
pub at_most_lowest : (a b f g : Fraction) → IsLowestOf a f → IsLowestOf b g → IsAtMost a b → IsAtMost f g
at_most_lowest a b f g of_a of_b h =
    at_most_shown a.den a.num b.den b.num f g of_a.positive of_b.positive (lowest_shows a f of_a) (lowest_shows b g of_b) h.le

pub at_most_of_lowest : (a b f g : Fraction) → IsLowestOf a f → IsLowestOf b g → IsAtMost f g → IsAtMost a b
at_most_of_lowest a b f g of_a of_b h = record {
  le = shows_at_most a.den a.num b.den b.num f g of_a.positive of_b.positive (lowest_shows a f of_a) (lowest_shows b g of_b) h;
}
