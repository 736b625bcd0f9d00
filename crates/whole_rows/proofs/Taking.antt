-- What taking a divided row away makes of a row's cells, and how large its numbers become.
use Rattle.std.proofs.Common.{◌≡◌, inl, inr, ℕ, ◌+◌, ◌*◌, ◌<◌, ◌≤◌, ◌^◌, List, length, set, ℤ, pos, ◌-ℤ◌, ◌*ℤ◌, ◌<ℤ◌}
use Rattle.std.proofs.Common.{unsigned_abs, Result, Ok, Err, refl, sym, ◌∙◌, ap, arith, get_or-set_same, get_or-set_other}
use Rattle.std.proofs.lemmas.Bool.{cases_eq, cases_lt}
use Rattle.std.proofs.lemmas.List.{get_or_past}
use Rattle.std.proofs.lemmas.Int.{ints, unsigned_abs-mul}
use Rattle.std.proofs.Math.Nat.{mul-le-mul, le_refl}
use Rattle.number_laws.proofs.Ring.{as_diff, diffs, same_diff, by_one, mul-one, mul-zero, one-mul, zero-mul}
use Rattle.number_laws.proofs.Order.{times_positive}
use Rattle.fraction128.specs.Fraction.{Fraction, over, whole}
use Rattle.exchange_runs.specs.SmallRuns.{IsSmall}
use Rattle.whole_rows.specs.Rows.{RowDef, PivotDef, num_at, entry_at, listed_at, AreSparse, IsPivotOf}
use Rattle.whole_rows.specs.Rows.{IsBounded}
use Rattle.whole_rows.specs.PivotView.{IsBoundedPivot}
use Rattle.whole_rows.specs.Numbers.{number_at, AreTimes, AreTaken, IsCancelled, IsSameRow}
use Rattle.whole_rows.specs.Steps.{IsSmallLess, IsLeftRow, LeavesRow}
use Rattle.whole_rows.specs.declared.entries.Entry.{Entry}
use Rattle.whole_rows.specs.declared.stops.Large.{Large}
use Rattle.whole_rows.proofs.Listed.{nothing, listed_entry, listed_none, found_or_none}

-- the sizes of products and differences
pub product_size : (x y : ℤ) (a b : ℕ) → unsigned_abs x ≤ a → unsigned_abs y ≤ b → unsigned_abs (x *ℤ y) ≤ a * b
product_size x y a b h l = rw unsigned_abs-mul (mul-le-mul h l)

pub difference_size : (x y : ℤ) (a b : ℕ) → unsigned_abs x ≤ a → unsigned_abs y ≤ b → unsigned_abs (x -ℤ y) ≤ a + b
difference_size x y a b h l = omega (arith, ints)

pub less_size : (n p f y : ℤ) (most others : ℕ) → unsigned_abs n ≤ most → unsigned_abs y ≤ others
    → unsigned_abs ((n *ℤ p) -ℤ (f *ℤ y)) ≤ most * unsigned_abs p + unsigned_abs f * others
less_size n p f y most others h l =
    difference_size (n *ℤ p) (f *ℤ y) _ _ (product_size n p most (unsigned_abs p) h (le_refl (unsigned_abs p)))
    (product_size f y (unsigned_abs f) others (le_refl (unsigned_abs f)) l)

pub listed_within : (es : List Entry) (most k : ℕ) → AreSparse es → ((j : ℕ) → unsigned_abs (entry_at es j).num ≤ most)
    → unsigned_abs (listed_at es k) ≤ most
listed_within es most k sparse within = elim (found_or_none es k) [
  | inl there ↦ rw (listed_entry es there.0 k sparse.rise there.1 there.2) (within there.0)
  | inr none ↦ rw (listed_none es k none) (omega arith)
]

-- what the loops ask for, where the sizes leave room
pub products_fit : (before : List ℤ) (p f : ℤ) (es : List Entry) → AreSparse es
    → ((j : ℕ) → unsigned_abs (number_at before j) * unsigned_abs p + unsigned_abs f * unsigned_abs (listed_at es j) < 2 ^ 63)
    → (j : ℕ) → unsigned_abs (f *ℤ (entry_at es j).num) < 2 ^ 63
products_fit before p f es sparse room j = elim (cases_lt j (length es)) [
  | inl within ↦
      let own : listed_at es (entry_at es j).place ≡ (entry_at es j).num =
      listed_entry es j (entry_at es j).place sparse.rise within refl in
      let there = room (entry_at es j).place in
      rw (sym own, unsigned_abs-mul) (omega arith)
  | inr past ↦ rw (get_or_past es j nothing past, mul-zero f) (omega arith)
]

pub room_kept : (before times : List ℤ) (k : ℕ) (p f : ℤ) (es : List Entry) → k < length before
    → AreTimes (set before k (pos 0)) p times
    → ((j : ℕ) → unsigned_abs (number_at before j) * unsigned_abs p + unsigned_abs f * unsigned_abs (listed_at es j) < 2 ^ 63)
    → (j : ℕ) → unsigned_abs (number_at times j -ℤ (f *ℤ listed_at es j)) < 2 ^ 63
room_kept before times k p f es l h room j =
    let there = room j in
    let product : unsigned_abs (f *ℤ listed_at es j) ≡ unsigned_abs f * unsigned_abs (listed_at es j) =
    unsigned_abs-mul f (listed_at es j) in
    elim (cases_eq j k) [
      | inl here ↦
          let none : number_at times j ≡ pos 0 =
          rw here (h.each k ∙ (ap (λ n. n *ℤ p) (get_or-set_same before k (pos 0) (pos 0) l) ∙ zero-mul p)) in
          rw none (omega (arith, ints))
      | inr other ↦
          let own : number_at times j ≡ number_at before j *ℤ p =
          h.each j ∙ ap (λ n. n *ℤ p) (get_or-set_other before k j (pos 0) (pos 0) other) in
          let size = less_size (number_at before j) p f (listed_at es j) (unsigned_abs (number_at before j)) (unsigned_abs (listed_at es j))
          (le_refl (unsigned_abs (number_at before j))) (le_refl (unsigned_abs (listed_at es j))) in
          rw own (omega arith)
    ]

-- a row, what is left of it over whole numbers, and the bound on that
pub record IsTakenRow (row : RowDef) (k : ℕ) (p f : ℤ) (pivot : PivotDef) (left : RowDef) : Type 0 where
  pub nums : AreTaken row.nums k p f pivot.entries left.nums
  pub limit : left.limit ≡ (row.limit *ℤ p) -ℤ (f *ℤ pivot.limit)
  pub den : left.den ≡ row.den *ℤ p

pub taken_bounded : (row left : RowDef) (pivot : PivotDef) (k most others bound : ℕ) (p f : ℤ) → IsBounded row most
    → IsBoundedPivot pivot others → pos 0 <ℤ p → bound ≡ most * unsigned_abs p + unsigned_abs f * others → bound < 2 ^ 63
    → IsTakenRow row k p f pivot left → IsBounded left bound
taken_bounded row left pivot k most others bound p f h m positive is fits taken =
    let listed : (j : ℕ) → unsigned_abs (listed_at pivot.entries j) ≤ others = λ j. listed_within pivot.entries others j m.sparse m.nums in
    record {
      positive = rw taken.den (times_positive row.den p h.positive positive);
      nums = λ j. elim (cases_eq j k) [
        | inl here ↦
            let own : unsigned_abs (f *ℤ listed_at pivot.entries k) ≤ unsigned_abs f * others =
            product_size f (listed_at pivot.entries k) (unsigned_abs f) others (le_refl (unsigned_abs f)) (listed k) in
            rw (here, taken.nums.own) (omega (arith, ints))
        | inr other ↦
            rw (taken.nums.others j other, is)
            (less_size (num_at row j) p f (listed_at pivot.entries j) most others (h.nums j) (listed j))
      ];
      limit = rw (taken.limit, is) (less_size row.limit p f pivot.limit most others h.limit m.limit);
      den =
          let size : unsigned_abs (row.den *ℤ p) ≤ most * unsigned_abs p =
          product_size row.den p most (unsigned_abs p) h.den (le_refl (unsigned_abs p)) in
          rw taken.den (omega arith);
      fits = fits;
    }

product_ring : (d y f p g : ℤ) → (f *ℤ y) *ℤ (d *ℤ (p *ℤ g)) ≡ ((f *ℤ g) *ℤ y) *ℤ (d *ℤ p)
product_ring d y f p g =
    rw (as_diff d, as_diff y, as_diff f, as_diff p, as_diff g) (simp diffs (same_diff _ _ _ _ (omega arith)))

difference_ring : (n d p x : ℤ) → ((n *ℤ p) -ℤ x) *ℤ (d *ℤ (d *ℤ p)) ≡ ((n *ℤ (d *ℤ p)) -ℤ (x *ℤ d)) *ℤ (d *ℤ p)
difference_ring n d p x = rw (as_diff n, as_diff d, as_diff p, as_diff x) (simp diffs (same_diff _ _ _ _ (omega arith)))

own_ring : (x e : ℤ) → (pos 0 -ℤ x) *ℤ (pos 1 *ℤ e) ≡ ((pos 0 *ℤ e) -ℤ (x *ℤ pos 1)) *ℤ e
own_ring x e = rw (one-mul e, zero-mul e, mul-one x) refl

is_small : (n e : ℤ) (bound : ℕ) → pos 0 <ℤ e → unsigned_abs e ≤ bound → bound < 2 ^ 63 → unsigned_abs n ≤ bound → IsSmall (over n e)
is_small n e bound positive den fits num = record { positive = positive; small_num = omega arith; small_den = omega arith }

-- n p less f y is what is left of n / d if f y / p is subtracted, over d p; the divisor g was removed from f / p
less_shown : (n d top bottom y f p g e b : ℤ) (bound : ℕ) → top ≡ f *ℤ g → bottom ≡ p *ℤ g → e ≡ d *ℤ p
    → b ≡ (n *ℤ p) -ℤ (f *ℤ y) → pos 0 <ℤ e → unsigned_abs e ≤ bound → bound < 2 ^ 63 → unsigned_abs (f *ℤ y) ≤ bound
    → unsigned_abs b ≤ bound → IsSmallLess (over n d) (over top d) (over y bottom) (over b e)
less_shown n d top bottom y f p g e b bound top_is bottom_is e_is b_is positive den fits product num = record {
  product = over (f *ℤ y) e;
  product_form = is_small (f *ℤ y) e bound positive den fits product;
  is_product = record { same = rw (top_is, bottom_is, e_is) (product_ring d y f p g) };
  form = is_small b e bound positive den fits num;
  is_difference = record { same = rw (b_is, e_is) (difference_ring n d p (f *ℤ y)) };
}

-- the same where 0 is taken from
less_shown_from_zero : (d top bottom y f p g e b : ℤ) (bound : ℕ) → top ≡ f *ℤ g → bottom ≡ p *ℤ g → e ≡ d *ℤ p
    → b ≡ pos 0 -ℤ (f *ℤ y) → pos 0 <ℤ e → unsigned_abs e ≤ bound → bound < 2 ^ 63 → unsigned_abs (f *ℤ y) ≤ bound
    → unsigned_abs b ≤ bound → IsSmallLess (whole (pos 0)) (over top d) (over y bottom) (over b e)
less_shown_from_zero d top bottom y f p g e b bound top_is bottom_is e_is b_is positive den fits product num = record {
  product = over (f *ℤ y) e;
  product_form = is_small (f *ℤ y) e bound positive den fits product;
  is_product = record { same = rw (top_is, bottom_is, e_is) (product_ring d y f p g) };
  form = is_small b e bound positive den fits num;
  is_difference = record { same = rw b_is (own_ring (f *ℤ y) e) };
}

pub left_row : (row left divided : RowDef) (pivot : PivotDef) (k most others bound : ℕ) (p f : ℤ) → IsBounded row most
    → IsBoundedPivot pivot others → IsCancelled (num_at row k) pivot.den f p → bound ≡ most * unsigned_abs p + unsigned_abs f * others
    → bound < 2 ^ 63 → IsTakenRow row k p f pivot left → IsPivotOf pivot divided → IsLeftRow row k divided left
left_row row left divided pivot k most others bound p f h m cut is fits taken own =
    let after : IsBounded left bound = taken_bounded row left pivot k most others bound p f h m cut.positive is fits taken in
    let bottom : divided.den ≡ p *ℤ cut.divisor = sym own.den ∙ cut.bottom_is in
    let product : (y : ℤ) → unsigned_abs y ≤ others → unsigned_abs (f *ℤ y) ≤ bound = λ y l.
    let size : unsigned_abs (f *ℤ y) ≤ unsigned_abs f * others = product_size f y (unsigned_abs f) others (le_refl (unsigned_abs f)) l in
    omega arith in
    let number : (j : ℕ) → unsigned_abs (num_at divided j) ≤ others = λ j.
    rw (sym (own.each j)) (listed_within pivot.entries others j m.sparse m.nums) in
    let limit : unsigned_abs divided.limit ≤ others = rw (sym own.limit) m.limit in
    record {
      as_many = taken.nums.as_many;
      own = less_shown_from_zero row.den (num_at row k) divided.den (num_at divided k) f p cut.divisor left.den (num_at left k) bound
          cut.top_is bottom taken.den (rw (own.each k) at taken.nums.own) after.positive after.den fits
          (product (num_at divided k) (number k)) (after.nums k);
      others = λ j other.
          less_shown (num_at row j) row.den (num_at row k) divided.den (num_at divided j) f p cut.divisor left.den (num_at left j) bound
          cut.top_is bottom taken.den (rw (own.each j) at (taken.nums.others j other)) after.positive after.den fits
          (product (num_at divided j) (number j)) (after.nums j);
      limit = less_shown row.limit row.den (num_at row k) divided.den divided.limit f p cut.divisor left.den left.limit bound
          cut.top_is bottom taken.den (rw own.limit at taken.limit) after.positive after.den fits
          (product divided.limit limit) after.limit;
    }

product_times : (d y z n v w g : ℤ) → v *ℤ (d *ℤ z) ≡ (n *ℤ y) *ℤ w → v *ℤ ((d *ℤ g) *ℤ z) ≡ ((n *ℤ g) *ℤ y) *ℤ w
product_times d y z n v w g h =
    by_one g h _ _ (rw (as_diff d, as_diff y, as_diff z, as_diff n, as_diff v, as_diff w, as_diff g)
    (simp diffs (same_diff _ _ _ _ (omega arith))))

difference_times : (n d v w b e g : ℤ) → b *ℤ (d *ℤ w) ≡ ((n *ℤ w) -ℤ (v *ℤ d)) *ℤ e
    → b *ℤ ((d *ℤ g) *ℤ w) ≡ (((n *ℤ g) *ℤ w) -ℤ (v *ℤ (d *ℤ g))) *ℤ e
difference_times n d v w b e g h =
    by_one g h _ _ (rw (as_diff n, as_diff d, as_diff v, as_diff w, as_diff b, as_diff e, as_diff g)
    (simp diffs (same_diff _ _ _ _ (omega arith))))

-- what is left of a cell is left of it with a common divisor put back
less_again : (n d top g m e t : ℤ) (y b : Fraction) → m ≡ n *ℤ g → e ≡ d *ℤ g → t ≡ top *ℤ g
    → IsSmallLess (over n d) (over top d) y b → IsSmallLess (over m e) (over t e) y b
less_again n d top g m e t y b m_is e_is t_is h = record {
  product = h.product;
  product_form = h.product_form;
  is_product = record {
    same = rw (e_is, t_is) (product_times d y.num y.den top h.product.num h.product.den g h.is_product.same);
  };
  form = h.form;
  is_difference = record {
    same = rw (m_is, e_is) (difference_times n d h.product.num h.product.den b.num b.den g h.is_difference.same);
  };
}

less_again_from_zero : (d top g e t : ℤ) (y b : Fraction) → e ≡ d *ℤ g → t ≡ top *ℤ g
    → IsSmallLess (whole (pos 0)) (over top d) y b → IsSmallLess (whole (pos 0)) (over t e) y b
less_again_from_zero d top g e t y b e_is t_is h = record {
  product = h.product;
  product_form = h.product_form;
  is_product = record {
    same = rw (e_is, t_is) (product_times d y.num y.den top h.product.num h.product.den g h.is_product.same);
  };
  form = h.form;
  is_difference = h.is_difference;
}

left_again : (row tight divided left : RowDef) (k : ℕ) → IsSameRow row tight → IsLeftRow tight k divided left
    → IsLeftRow row k divided left
left_again row tight divided left k is h = record {
  as_many = h.as_many ∙ is.nums.as_many;
  own = less_again_from_zero tight.den (num_at tight k) is.divisor row.den (num_at row k) _ _ is.den (is.nums.each k) h.own;
  others = λ j other.
      less_again (num_at tight j) tight.den (num_at tight k) is.divisor (num_at row j) row.den (num_at row k) _ _
      (is.nums.each j) is.den (is.nums.each k) (h.others j other);
  limit = less_again tight.limit tight.den (num_at tight k) is.divisor row.limit row.den (num_at row k) _ _
      is.limit is.den (is.nums.each k) h.limit;
}

pub leaves_again : (result : Result (Unit {0}) Large) (row tight divided left : RowDef) (k : ℕ) → IsSameRow row tight
    → LeavesRow result tight k divided left → LeavesRow result row k divided left
leaves_again (Ok u) row tight divided left k is h = left_again row tight divided left k is h
leaves_again (Err large) row tight divided left k is h = tt

-- the code's number taken p times less f times another
pub less_times_fits : (n p f y : ℤ) → unsigned_abs n * unsigned_abs p + unsigned_abs f * unsigned_abs y < 2 ^ 63
    → (unsigned_abs (n *ℤ p) < 2 ^ 63) × (unsigned_abs (f *ℤ y) < 2 ^ 63) × (unsigned_abs ((n *ℤ p) -ℤ (f *ℤ y)) < 2 ^ 63)
less_times_fits n p f y room =
    let size = less_size n p f y (unsigned_abs n) (unsigned_abs y) (le_refl (unsigned_abs n)) (le_refl (unsigned_abs y)) in
    (rw unsigned_abs-mul (omega arith), rw unsigned_abs-mul (omega arith), omega arith)

-- room for what is taken from a row
pub room_of : (row : RowDef) (pivot : PivotDef) (most others bound : ℕ) (p f : ℤ) → IsBounded row most → IsBoundedPivot pivot others
    → bound ≡ most * unsigned_abs p + unsigned_abs f * others → bound < 2 ^ 63
    → (n y : ℤ) → unsigned_abs n ≤ most → unsigned_abs y ≤ others
    → unsigned_abs n * unsigned_abs p + unsigned_abs f * unsigned_abs y < 2 ^ 63
room_of row pivot most others bound p f h m is fits n y num other =
    let first : unsigned_abs n * unsigned_abs p ≤ most * unsigned_abs p = mul-le-mul num (le_refl (unsigned_abs p)) in
    let second : unsigned_abs f * unsigned_abs y ≤ unsigned_abs f * others = mul-le-mul (le_refl (unsigned_abs f)) other in
    omega arith

pub den_small : (row : RowDef) (most others bound : ℕ) (p f : ℤ) → IsBounded row most
    → bound ≡ most * unsigned_abs p + unsigned_abs f * others → bound < 2 ^ 63 → unsigned_abs (row.den *ℤ p) < 2 ^ 63
den_small row most others bound p f h is fits =
    let size : unsigned_abs (row.den *ℤ p) ≤ most * unsigned_abs p =
    product_size row.den p most (unsigned_abs p) h.den (le_refl (unsigned_abs p)) in
    omega arith
