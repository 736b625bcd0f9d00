-- Whether rows of whole numbers have a solution in naturals is decided column by column, from the last. There are two cases: some solution
-- has zero in the last column, or some row is met exactly and is solved for it. Place 0 is the scale, which is above zero, and n columns
-- follow it.
use Rattle.std.proofs.Common.{◌≡◌, ◌⊎◌, inl, inr, ℕ, zero, suc, ◌*◌, ◌<◌, ℤ, pos, ◌+ℤ◌, ◌*ℤ◌, neg_ℤ, ◌≤ℤ◌, ◌<ℤ◌}
use Rattle.std.proofs.Common.{unsigned_abs, refl, ap, ap₂, ◌∙◌, sym, subst, arith, if◌then◌else◌, nat_eq}
use Rattle.std.proofs.lemmas.Int.{ints, by_lt_z}
use Rattle.std.proofs.lemmas.Bool.{cases_eq, cases_lt, eq-eqb, ne_eqb}
use lib.Signed.{≤ℤ_refl, clash_ℤ}
use Rattle.std.proofs.Math.Nat.{mul-pos}
use Rattle.number_laws.proofs.Ring.{as_diff, diffs, same_diff, mul-neg_left, mul-left_comm}
use Rattle.number_laws.proofs.Order.{times_nonneg, times_positive, times_le, not_negative, weaker, above_zero}
use Rattle.number_laws.proofs.Comparison.{chained_le, le_either}
use Rattle.number_laws.specs.WholeSums.{total_below}
use Rattle.number_laws.proofs.TotalLaws.{total_below-agree, total_below-mix, total_below-times}

-- What does the row x come to at the naturals ys?
abbrev pub at_naturals : ℕ → (ℕ → ℤ) → (ℕ → ℕ) → ℤ
at_naturals n x ys = total_below n (λ k. x k *ℤ pos (ys k))

-- Do ys solve the rows: is the scale above zero, and is no row above zero?
pub record Solves (m n : ℕ) (a : ℕ → ℕ → ℤ) (ys : ℕ → ℕ) : Type 0 where
  pub scale : 0 < ys 0
  pub kept : (i : ℕ) → i < m → at_naturals (suc n) (a i) ys ≤ℤ pos 0

abbrev pub IsSolvable : ℕ → ℕ → (ℕ → ℕ → ℤ) → Type 0
IsSolvable m n a = (ys : ℕ → ℕ) × Solves m n a ys

-- The rows if row i is met exactly and solved for place e: the other rows without that place, and row i for what is then put there.
abbrev pub solved_for : ℕ → ℕ → (ℕ → ℕ → ℤ) → ℕ → ℕ → ℤ
solved_for i e a j k = if nat_eq j i then neg_ℤ (a i k) else (neg_ℤ (a i e) *ℤ a j k) +ℤ (a j e *ℤ a i k)

at_mix : (n : ℕ) (p q : ℤ) (x y : ℕ → ℤ) (ys : ℕ → ℕ)
    → at_naturals n (λ k. (p *ℤ x k) +ℤ (q *ℤ y k)) ys ≡ (p *ℤ at_naturals n x ys) +ℤ (q *ℤ at_naturals n y ys)
at_mix n p q x y ys =
    total_below-agree n (λ k. ((p *ℤ x k) +ℤ (q *ℤ y k)) *ℤ pos (ys k)) (λ k. (p *ℤ (x k *ℤ pos (ys k))) +ℤ (q *ℤ (y k *ℤ pos (ys k))))
    (λ k l. mix_ring p q (x k) (y k) (pos (ys k)))
    ∙ total_below-mix n p q (λ k. x k *ℤ pos (ys k)) (λ k. y k *ℤ pos (ys k))
  where
    mix_ring : (p q x y t : ℤ) → ((p *ℤ x) +ℤ (q *ℤ y)) *ℤ t ≡ (p *ℤ (x *ℤ t)) +ℤ (q *ℤ (y *ℤ t))
    mix_ring p q x y t = rw (as_diff p, as_diff q, as_diff x, as_diff y, as_diff t) (simp diffs (same_diff _ _ _ _ (omega arith)))

at_minus : (n : ℕ) (x : ℕ → ℤ) (ys : ℕ → ℕ) → at_naturals n (λ k. neg_ℤ (x k)) ys ≡ neg_ℤ (at_naturals n x ys)
at_minus zero x ys = omega (arith, ints)
at_minus (suc n) x ys = minus_more _ _ _ _ (at_minus n x ys) (mul-neg_left (x n) (pos (ys n)))
  where
    minus_more : (s t u v : ℤ) → s ≡ neg_ℤ t → u ≡ neg_ℤ v → s +ℤ u ≡ neg_ℤ (t +ℤ v)
    minus_more s t u v p q = omega (arith, ints)

at_scaled : (n c : ℕ) (x : ℕ → ℤ) (ys : ℕ → ℕ) → at_naturals n x (λ k. c * ys k) ≡ pos c *ℤ at_naturals n x ys
at_scaled n c x ys =
    total_below-agree n (λ k. x k *ℤ pos (c * ys k)) (λ k. pos c *ℤ (x k *ℤ pos (ys k))) (λ k l. mul-left_comm (x k) (pos c) (pos (ys k)))
    ∙ total_below-times n (pos c) (λ k. x k *ℤ pos (ys k))

-- ys with y at place e
abbrev with_last : ℕ → ℕ → (ℕ → ℕ) → ℕ → ℕ
with_last e y ys k = if nat_eq k e then y else ys k

with_last-here : (e y : ℕ) (ys : ℕ → ℕ) → with_last e y ys e ≡ y
with_last-here e y ys = rw (eq-eqb e e refl) refl

with_last-away : (e y : ℕ) (ys : ℕ → ℕ) (k : ℕ) → (k ≡ e → ⊥) → with_last e y ys k ≡ ys k
with_last-away e y ys k h = rw (ne_eqb k e h) refl

at_with_last : (e y : ℕ) (x : ℕ → ℤ) (ys : ℕ → ℕ) → at_naturals (suc e) x (with_last e y ys) ≡ at_naturals e x ys +ℤ (x e *ℤ pos y)
at_with_last e y x ys =
    ap₂ ◌+ℤ◌
    (total_below-agree e (λ k. x k *ℤ pos (with_last e y ys k)) (λ k. x k *ℤ pos (ys k))
    (λ k l. ap (λ v. x k *ℤ pos v) (with_last-away e y ys k (λ q. omega arith))))
    (ap (λ v. x e *ℤ pos v) (with_last-here e y ys))

with_last-scale : (n y : ℕ) (ys : ℕ → ℕ) → 0 < ys 0 → 0 < with_last (suc n) y ys 0
with_last-scale n y ys h = subst (λ (v : ℕ). 0 < v) (sym (with_last-away (suc n) y ys 0 (λ q. omega arith))) h

solved_here : (n i e : ℕ) (a : ℕ → ℕ → ℤ) (ys : ℕ → ℕ) → at_naturals n (solved_for i e a i) ys ≡ neg_ℤ (at_naturals n (a i) ys)
solved_here n i e a ys =
    total_below-agree n (λ k. solved_for i e a i k *ℤ pos (ys k)) (λ k. neg_ℤ (a i k) *ℤ pos (ys k))
    (λ k l. ap (λ c. c *ℤ pos (ys k)) (row_here k))
    ∙ at_minus n (a i) ys
  where
    row_here : (k : ℕ) → solved_for i e a i k ≡ neg_ℤ (a i k)
    row_here k = rw (eq-eqb i i refl) refl

solved_away : (n i e j : ℕ) (a : ℕ → ℕ → ℤ) (ys : ℕ → ℕ) → (j ≡ i → ⊥)
    → at_naturals n (solved_for i e a j) ys ≡ (neg_ℤ (a i e) *ℤ at_naturals n (a j) ys) +ℤ (a j e *ℤ at_naturals n (a i) ys)
solved_away n i e j a ys away =
    total_below-agree n (λ k. solved_for i e a j k *ℤ pos (ys k)) (λ k. ((neg_ℤ (a i e) *ℤ a j k) +ℤ (a j e *ℤ a i k)) *ℤ pos (ys k))
    (λ k l. ap (λ c. c *ℤ pos (ys k)) (row_away k))
    ∙ at_mix n (neg_ℤ (a i e)) (a j e) (a j) (a i) ys
  where
    row_away : (k : ℕ) → solved_for i e a j k ≡ (neg_ℤ (a i e) *ℤ a j k) +ℤ (a j e *ℤ a i k)
    row_away k = rw (ne_eqb j i away) refl

-- What is solved without one more column is solved with zero in it too.
back_zero : (m n : ℕ) (a : ℕ → ℕ → ℤ) → IsSolvable m n a → IsSolvable m (suc n) a
back_zero m n a h = (
  with_last (suc n) 0 h.0,
  record {
    scale = with_last-scale n 0 h.0 h.1.scale;
    kept = λ i l. with_none _ _ (a i (suc n)) (at_with_last (suc n) 0 (a i) h.0) (h.1.kept i l);
  },
)
  where
    with_none : (s t c : ℤ) → s ≡ t +ℤ (c *ℤ pos 0) → t ≤ℤ pos 0 → s ≤ℤ pos 0
    with_none s t c p q = omega (arith, ints)

at_most_same : (s t : ℤ) → s ≡ t → t ≤ℤ pos 0 → s ≤ℤ pos 0
at_most_same s t p q = omega (arith, ints)

-- If row i is solved for the last column, what it gives there solves all rows.
back_solved : (m n : ℕ) (a : ℕ → ℕ → ℤ) (i : ℕ) → i < m → a i (suc n) <ℤ pos 0 → IsSolvable m n (solved_for i (suc n) a)
    → IsSolvable m (suc n) a
back_solved m n a i within below h =
    let e : ℕ = suc n in
    let ys : ℕ → ℕ = h.0 in
    let rest : ℤ = at_naturals (suc n) (a i) ys in
    let size : ℕ = unsigned_abs (a i e) in
    let size_is : pos size ≡ neg_ℤ (a i e) = size_below (a i e) below in
    let rest_is : pos (unsigned_abs rest) ≡ rest = size_above rest _ (solved_here (suc n) i e a ys) (h.1.kept i within) in
    let comes_to : (j : ℕ) → at_naturals (suc e) (a j) (with_last e (unsigned_abs rest) (λ k. size * ys k))
    ≡ (neg_ℤ (a i e) *ℤ at_naturals (suc n) (a j) ys) +ℤ (a j e *ℤ rest)
    = λ j.
    at_with_last e (unsigned_abs rest) (a j) (λ k. size * ys k)
    ∙ ap₂ ◌+ℤ◌ (at_scaled (suc n) size (a j) ys ∙ ap (λ c. c *ℤ at_naturals (suc n) (a j) ys) size_is) (ap (λ c. a j e *ℤ c) rest_is) in (
      with_last e (unsigned_abs rest) (λ k. size * ys k),
      record {
        scale = with_last-scale n (unsigned_abs rest) (λ k. size * ys k) (mul-pos (above_size (a i e) below) h.1.scale);
        kept = λ j l. elim (cases_eq j i) [
          | inl here ↦ at_most_same _ _ (comes_to j
              ∙ ap (λ (v : ℕ). (neg_ℤ (a i e) *ℤ at_naturals (suc n) (a v) ys) +ℤ (a v e *ℤ rest)) here) (nothing (a i e) rest)
          | inr away ↦ at_most_same _ _ (comes_to j ∙ sym (solved_away (suc n) i e j a ys away)) (h.1.kept j l)
        ];
      },
    )
  where
    size_below : (x : ℤ) → x <ℤ pos 0 → pos (unsigned_abs x) ≡ neg_ℤ x
    size_below x p = omega (arith, ints)

    above_size : (x : ℤ) → x <ℤ pos 0 → 0 < unsigned_abs x
    above_size x p = omega (arith, ints)

    size_above : (x s : ℤ) → s ≡ neg_ℤ x → s ≤ℤ pos 0 → pos (unsigned_abs x) ≡ x
    size_above x s p q = omega (arith, ints)

    nothing : (c r : ℤ) → ((neg_ℤ c *ℤ r) +ℤ (c *ℤ r)) ≤ℤ pos 0
    nothing c r = over _ _ (mul-neg_left c r)
      where
        over : (s t : ℤ) → s ≡ neg_ℤ t → (s +ℤ t) ≤ℤ pos 0
        over s t p = omega (arith, ints)

-- Take the rows below m whose cell is below zero. Is i one whose rest is above zero, and the greatest over minus its cell?
record IsSteepest (m : ℕ) (rest cell : ℕ → ℤ) (i : ℕ) : Type 0 where
  within : i < m
  below : cell i <ℤ pos 0
  above : pos 0 <ℤ rest i
  steepest : (j : ℕ) → j < m → cell j <ℤ pos 0 → (rest j *ℤ neg_ℤ (cell i)) ≤ℤ (rest i *ℤ neg_ℤ (cell j))

turned : (x : ℤ) → x <ℤ pos 0 → pos 0 <ℤ neg_ℤ x
turned x h = omega (arith, ints)

-- a rest that is not above zero is no steeper than one that is
flat : (x y u v : ℤ) → x ≤ℤ pos 0 → pos 0 <ℤ y → u <ℤ pos 0 → v <ℤ pos 0 → (x *ℤ neg_ℤ v) ≤ℤ (y *ℤ neg_ℤ u)
flat x y u v h k p q =
    between _ _ (neg_ℤ v) (times_le x (pos 0) (neg_ℤ v) (weaker (turned v q)) h) (times_positive y (neg_ℤ u) k (turned u p))
  where
    between : (a b c : ℤ) → a ≤ℤ (pos 0 *ℤ c) → pos 0 <ℤ b → a ≤ℤ b
    between a b c l g = omega (arith, ints)

-- If there is a fact for each row below m and for row m, there is one for each row below the next bound.
to_next : (m : ℕ) (A : ℕ → Type 0) → ((j : ℕ) → j < m → A j) → A m → (j : ℕ) → j < suc m → A j
to_next m A h last j l = elim (cases_lt j m) [
  | inl earlier ↦ h j earlier
  | inr end ↦ let same : m ≡ j = omega arith in subst A same last
]

-- The next row compared with the steepest so far.
steeper : (m : ℕ) (rest cell : ℕ → ℤ) (i : ℕ) → IsSteepest m rest cell i → cell m <ℤ pos 0 → pos 0 <ℤ rest m → (i : ℕ)
    × IsSteepest (suc m) rest cell i
steeper m rest cell i h below above = elim (le_either (rest m *ℤ neg_ℤ (cell i)) (rest i *ℤ neg_ℤ (cell m))) [
  | inl keep ↦ (
    i,
    record {
      within = omega (arith, h.within);
      below = h.below;
      above = h.above;
      steepest = to_next m (λ j. cell j <ℤ pos 0 → (rest j *ℤ neg_ℤ (cell i)) ≤ℤ (rest i *ℤ neg_ℤ (cell j))) h.steepest (λ b. keep);
    },
  )
  | inr take ↦ (
    m,
    record {
      within = omega arith;
      below = below;
      above = above;
      steepest = to_next m (λ j. cell j <ℤ pos 0 → (rest j *ℤ neg_ℤ (cell m)) ≤ℤ (rest m *ℤ neg_ℤ (cell j)))
          (λ j l b. chained_le (rest j) (rest i) (rest m) (neg_ℤ (cell j)) (neg_ℤ (cell i)) (neg_ℤ (cell m)) (turned _ b)
          (turned _ h.below) (turned _ below) (h.steepest j l b) take)
          (λ b. ≤ℤ_refl _);
    },
  )
]

-- One is the steepest, or no rest of theirs is above zero.
steepest : (m : ℕ) (rest cell : ℕ → ℤ) → ((i : ℕ) × IsSteepest m rest cell i) ⊎ ((j : ℕ) → j < m → cell j <ℤ pos 0 → rest j ≤ℤ pos 0)
steepest zero rest cell = inr (λ j l b. absurd (omega arith))
steepest (suc m) rest cell =
    by_lt_z (cell m) (pos 0)
    (λ below. by_lt_z (pos 0) (rest m)
    (λ above. elim (steepest m rest cell) [
      | inl there ↦ inl (steeper m rest cell there.0 there.1 below above)
      | inr none ↦ inl (
        m,
        record {
          within = omega arith;
          below = below;
          above = above;
          steepest = to_next m (λ j. cell j <ℤ pos 0 → (rest j *ℤ neg_ℤ (cell m)) ≤ℤ (rest m *ℤ neg_ℤ (cell j)))
              (λ j l b. flat (rest j) (rest m) (cell j) (cell m) (none j l b) above b below) (λ b. ≤ℤ_refl _);
        },
      )
    ])
    (λ least. elim (steepest m rest cell) [
      | inl there ↦ inl (keep there.0 there.1 (λ b. flat (rest m) (rest there.0) (cell m)
          (cell there.0) least there.1.above b there.1.below))
      | inr none ↦ inr (to_next m (λ j. cell j <ℤ pos 0 → rest j ≤ℤ pos 0) none (λ b. least))
    ]))
    (λ other. elim (steepest m rest cell) [
      | inl there ↦ inl (keep there.0 there.1 (λ b. clash_ℤ b other))
      | inr none ↦ inr (to_next m (λ j. cell j <ℤ pos 0 → rest j ≤ℤ pos 0) none (λ b. clash_ℤ b other))
    ])
  where
    keep : (i : ℕ) → IsSteepest m rest cell i → (cell m <ℤ pos 0 → (rest m *ℤ neg_ℤ (cell i)) ≤ℤ (rest i *ℤ neg_ℤ (cell m))) → (i : ℕ)
        × IsSteepest (suc m) rest cell i
    keep i h last = (
      i,
      record {
        within = omega (arith, h.within);
        below = h.below;
        above = h.above;
        steepest = to_next m (λ j. cell j <ℤ pos 0 → (rest j *ℤ neg_ℤ (cell i)) ≤ℤ (rest i *ℤ neg_ℤ (cell j))) h.steepest last;
      },
    )

-- a row whose last cell is not below zero is not above zero without it
rest_below : (r c : ℤ) (y : ℕ) → pos 0 ≤ℤ c → (r +ℤ (c *ℤ pos y)) ≤ℤ pos 0 → r ≤ℤ pos 0
rest_below r c y p h = less r (c *ℤ pos y) (times_nonneg c (pos y) p (not_negative y)) h
  where
    less : (a b : ℤ) → pos 0 ≤ℤ b → (a +ℤ b) ≤ℤ pos 0 → a ≤ℤ pos 0
    less a b q l = omega (arith, ints)

-- a row that steepens no more than row i
by_steepness : (ri ci rj cj : ℤ) → (rj *ℤ neg_ℤ ci) ≤ℤ (ri *ℤ neg_ℤ cj) → ((neg_ℤ ci *ℤ rj) +ℤ (cj *ℤ ri)) ≤ℤ pos 0
by_steepness ri ci rj cj h = over _ _ _ _ (swap rj ci) (out ri cj) h
  where
    swap : (a b : ℤ) → a *ℤ neg_ℤ b ≡ neg_ℤ b *ℤ a
    swap a b = rw (as_diff a, as_diff b) (simp diffs (same_diff _ _ _ _ (omega arith)))

    out : (a b : ℤ) → a *ℤ neg_ℤ b ≡ neg_ℤ (b *ℤ a)
    out a b = rw (as_diff a, as_diff b) (simp diffs (same_diff _ _ _ _ (omega arith)))

    over : (s t u v : ℤ) → s ≡ t → u ≡ neg_ℤ v → s ≤ℤ u → (t +ℤ v) ≤ℤ pos 0
    over s t u v p q l = omega (arith, ints)

-- a row whose last cell is not below zero, if both it and row i are met
by_both : (ri ci rj cj y : ℤ) → ci <ℤ pos 0 → pos 0 ≤ℤ cj → (ri +ℤ (ci *ℤ y)) ≤ℤ pos 0 → (rj +ℤ (cj *ℤ y)) ≤ℤ pos 0
    → ((neg_ℤ ci *ℤ rj) +ℤ (cj *ℤ ri)) ≤ℤ pos 0
by_both ri ci rj cj y below above hi hj =
    over _ _ _ ci cj (both ri ci rj cj y) (times_le (rj +ℤ (cj *ℤ y)) (pos 0) (neg_ℤ ci) (weaker (turned ci below)) hj)
    (times_le (ri +ℤ (ci *ℤ y)) (pos 0) cj above hi)
  where
    both : (ri ci rj cj y : ℤ) → (neg_ℤ ci *ℤ rj) +ℤ (cj *ℤ ri) ≡ ((rj +ℤ (cj *ℤ y)) *ℤ neg_ℤ ci) +ℤ ((ri +ℤ (ci *ℤ y)) *ℤ cj)
    both ri ci rj cj y = rw (as_diff ri, as_diff ci, as_diff rj, as_diff cj, as_diff y) (simp diffs (same_diff _ _ _ _ (omega arith)))

    over : (s t u a b : ℤ) → s ≡ t +ℤ u → t ≤ℤ (pos 0 *ℤ neg_ℤ a) → u ≤ℤ (pos 0 *ℤ b) → s ≤ℤ pos 0
    over s t u a b p l k = omega (arith, ints)

-- What solves the rows solves them without the last column, or some row is solved for it.
forward : (m n : ℕ) (a : ℕ → ℕ → ℤ) (ys : ℕ → ℕ) → Solves m (suc n) a ys
    → IsSolvable m n a ⊎ ((i : ℕ) × (i < m) × (a i (suc n) <ℤ pos 0) × IsSolvable m n (solved_for i (suc n) a))
forward m n a ys h =
    let e : ℕ = suc n in
    let rest : ℕ → ℤ = λ j. at_naturals (suc n) (a j) ys in
    let cell : ℕ → ℤ = λ j. a j (suc n) in
    elim (steepest m rest cell) [
      | inl there ↦
          let i : ℕ = there.0 in
          inr (
            i,
            there.1.within,
            there.1.below,
            (
              ys,
              record {
                scale = h.scale;
                kept = λ j l. elim (cases_eq j i) [
                  | inl here ↦ subst (λ (v : ℕ). at_naturals (suc n) (solved_for i e a v) ys ≤ℤ pos 0) (sym here)
                      (at_most_same _ _ (solved_here (suc n) i e a ys) (below_zero (rest i) there.1.above))
                  | inr away ↦ at_most_same _ _ (solved_away (suc n) i e j a ys away)
                      (by_lt_z (cell j) (pos 0)
                      (λ below. by_steepness (rest i) (cell i) (rest j) (cell j) (there.1.steepest j l below))
                      (λ above. by_both (rest i) (cell i) (rest j) (cell j) (pos (ys e)) there.1.below above (h.kept i there.1.within)
                      (h.kept j l)))
                ];
              },
            ),
          )
      | inr none ↦ inl (
        ys,
        record {
          scale = h.scale;
          kept = λ j l. by_lt_z (cell j) (pos 0) (λ below. none j l below)
              (λ above. rest_below (rest j) (cell j) (ys e) above (h.kept j l));
        },
      )
    ]
  where
    below_zero : (x : ℤ) → pos 0 <ℤ x → neg_ℤ x ≤ℤ pos 0
    below_zero x p = omega (arith, ints)

-- If it can be decided for each number, it can be decided for the numbers below m.
pub some_below : (P : ℕ → Type 0) → ((i : ℕ) → P i ⊎ (P i → ⊥)) → (m : ℕ) → ((i : ℕ) × (i < m) × P i) ⊎ ((i : ℕ) → i < m → P i → ⊥)
some_below P found zero = inr (λ i l p. absurd (omega arith))
some_below P found (suc m) = elim (some_below P found m) [
  | inl there ↦ inl (there.0, omega (arith, there.1), there.2)
  | inr none ↦ elim (found m) [
    | inl here ↦ inl (m, omega arith, here)
    | inr not_here ↦ inr (to_next m (λ i. P i → ⊥) none not_here)
  ]
]

-- Without columns only the scale decides.
solvable_scale : (m : ℕ) (a : ℕ → ℕ → ℤ) → IsSolvable m 0 a ⊎ (IsSolvable m 0 a → ⊥)
solvable_scale m a = elim (some_below (λ i. pos 0 <ℤ a i 0)
    (λ i. by_lt_z (pos 0) (a i 0) (λ above. inl above) (λ least. inr (λ above. clash_ℤ above least))) m) [
      | inl there ↦ inr (λ h. too_great _ (times_positive (a there.0 0) (pos (h.0 0)) there.2 (above_zero (h.0 0) h.1.scale))
          (h.1.kept there.0 there.1))
      | inr none ↦ inl (
        (λ k. 1),
        record {
          scale = omega arith;
          kept = λ i l. at_one (a i 0) (by_lt_z (pos 0) (a i 0) (λ above. absurd (none i l above)) (λ least. least));
        },
      )
    ]
  where
    too_great : (x : ℤ) → pos 0 <ℤ x → (pos 0 +ℤ x) ≤ℤ pos 0 → ⊥
    too_great x p q = omega (arith, ints)

    at_one : (x : ℤ) → x ≤ℤ pos 0 → (pos 0 +ℤ (x *ℤ pos 1)) ≤ℤ pos 0
    at_one x h = omega (arith, ints)

-- Has row i a last cell below zero, and are the rows solvable if it is solved for that place?
abbrev IsSolvedBy : ℕ → ℕ → (ℕ → ℕ → ℤ) → ℕ → Type 0
IsSolvedBy m n a i = (a i (suc n) <ℤ pos 0) × IsSolvable m n (solved_for i (suc n) a)

by_row : (m n : ℕ) (a : ℕ → ℕ → ℤ) (i : ℕ) → IsSolvable m n (solved_for i (suc n) a) ⊎ (IsSolvable m n (solved_for i (suc n) a) → ⊥)
    → IsSolvedBy m n a i ⊎ (IsSolvedBy m n a i → ⊥)
by_row m n a i found =
    by_lt_z (a i (suc n)) (pos 0)
    (λ below. elim found [
      | inl there ↦ inl (below, there)
      | inr none ↦ inr (λ h. none h.1)
    ])
    (λ above. inr (λ h. clash_ℤ h.0 above))

-- It can be decided whether rows have a solution.
pub solvable : (m n : ℕ) (a : ℕ → ℕ → ℤ) → IsSolvable m n a ⊎ (IsSolvable m n a → ⊥)
solvable m zero a = solvable_scale m a
solvable m (suc n) a = elim (solvable m n a) [
  | inl without ↦ inl (back_zero m n a without)
  | inr not_without ↦ elim (some_below (IsSolvedBy m n a) (λ i. by_row m n a i (solvable m n (solved_for i (suc n) a))) m) [
    | inl there ↦ inl (back_solved m n a there.0 there.1 there.2.0 there.2.1)
    | inr none ↦ inr (λ h. elim (forward m n a h.0 h.1) [
      | inl without ↦ not_without without
      | inr there ↦ none there.0 there.1 (there.2, there.3)
    ])
  ]
]
