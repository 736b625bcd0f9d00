-- The invariants of a run at its two ends: they hold of the first table, and at the last they give the dual's cover and value,
-- and the point and its worth.
use Rattle.std.proofs.Common.{◌≡◌, ℕ, ◌+◌, ◌<◌, ◌≤◌, ℤ, pos, ◌+ℤ◌, ◌*ℤ◌, neg_ℤ, ◌≤ℤ◌, inl, inr, refl, ap, ◌∙◌, sym, arith}
use Rattle.std.proofs.lemmas.Int.{ints}
use Rattle.std.proofs.lemmas.Bool.{cases_eq}
use Rattle.number_laws.proofs.Ring.{mul-neg_left, mul-zero, zero-mul, one-mul}
use Rattle.number_laws.proofs.Order.{times_nonneg}
use Rattle.number_laws.specs.WholeSums.{total_below, only_at}
use Rattle.number_laws.proofs.TotalLaws.{total_below-agree, total_below-zero, total_below-times, total_below-nonneg}
use Rattle.number_laws.proofs.TotalLaws.{total_below-only, total_below-swap, total_below-split, only_at-here}
use Rattle.number_laws.proofs.TotalLaws.{only_at-away}
use Rattle.exchange_runs.proofs.Invariants.{IsMix, IsRead}

-- A slack has 1 in its own first row, and 0 in each other row and the objective row.
abbrev pub HasSlacks : ℕ → ℕ → (ℕ → ℕ → ℤ) → Type 0
HasSlacks m n first = (r k : ℕ) → r ≤ m → k < m → first r (n + k) ≡ only_at k (pos 1) r

zero_plus : (a b : ℤ) → b ≡ (pos 0 *ℤ a) +ℤ b
zero_plus a b = omega (arith, ints)

one_alone : (a s : ℤ) → s ≡ pos 0 → a ≡ (pos 1 *ℤ a) +ℤ s
one_alone a s h = omega (arith, ints)

-- one row, picked out by its slack's numbers
picked : (j i : ℕ) (x : ℕ → ℤ) → only_at i (pos 1) j *ℤ x i ≡ only_at j (x j) i
picked j i x = elim (cases_eq i j) [
  | inl here ↦ rw (here, only_at-here j (pos 1), only_at-here j (x j)) (one-mul (x j))
  | inr away ↦ rw (only_at-away i (pos 1) j (λ e. away (sym e)), only_at-away j (x j) i away) (zero-mul (x i))
]

picked_sum : (m j : ℕ) (by x : ℕ → ℤ) → j < m → ((i : ℕ) → i < m → by i ≡ only_at i (pos 1) j) → total_below m (λ i. by i *ℤ x i) ≡ x j
picked_sum m j by x l h =
    total_below-agree m (λ i. by i *ℤ x i) (only_at j (x j)) (λ i k. ap (λ c. c *ℤ x i) (h i k) ∙ picked j i x)
    ∙ total_below-only m j (x j) l

none_sum : (m : ℕ) (by x : ℕ → ℤ) → ((i : ℕ) → i < m → by i ≡ only_at i (pos 1) m) → total_below m (λ i. by i *ℤ x i) ≡ pos 0
none_sum m by x h =
    total_below-zero m (λ i. by i *ℤ x i)
    (λ i k. ap (λ c. c *ℤ x i) (h i k ∙ only_at-away i (pos 1) m (λ e. omega arith)) ∙ zero-mul (x i))

pub start_mix : (m n : ℕ) (first : ℕ → ℕ → ℤ) (i : ℕ) → HasSlacks m n first → i < m → IsMix m n first (pos 0) (first i)
start_mix m n first i slacks l = record {
  mixed = λ v.
      sym (picked_sum m i (λ r. first i (n + r)) (λ r. first r v) l (λ r k. slacks i r (omega arith) k))
      ∙ zero_plus (first m v) (total_below m (λ r. first i (n + r) *ℤ first r v));
}

pub start_mix_objective : (m n : ℕ) (first : ℕ → ℕ → ℤ) → HasSlacks m n first → IsMix m n first (pos 1) (first m)
start_mix_objective m n first slacks = record {
  mixed = λ v. one_alone (first m v) (total_below m (λ r. first m (n + r) *ℤ first r v))
      (none_sum m (λ r. first m (n + r)) (λ r. first r v) (λ r k. slacks m r (omega arith) k));
}

pub start_read : (m n : ℕ) (first : ℕ → ℕ → ℤ) (basic : ℕ → ℕ) (j : ℕ) → HasSlacks m n first → ((i : ℕ) → i < m → basic i ≡ n + i) → j < m
    → IsRead m (pos 1) (pos 0) (first j) first basic
start_read m n first basic j slacks is l = record {
  read = λ v.
      one-mul (first j v)
      ∙ (sym (picked_sum m j (λ i. first j (basic i)) (λ i. first i v) l (λ i k. ap (first j) (is i k) ∙ slacks j i (omega arith) k))
      ∙ zero_plus (first m v) (total_below m (λ i. first j (basic i) *ℤ first i v)));
}

pub start_read_objective : (m n : ℕ) (first : ℕ → ℕ → ℤ) (basic : ℕ → ℕ) → HasSlacks m n first → ((i : ℕ) → i < m → basic i ≡ n + i)
    → IsRead m (pos 1) (pos 1) (first m) first basic
start_read_objective m n first basic slacks is = record {
  read = λ v.
      one-mul (first m v)
      ∙ one_alone (first m v) (total_below m (λ i. first m (basic i) *ℤ first i v)) (none_sum m (λ i. first m (basic i))
      (λ i. first i v) (λ i k. ap (first m) (is i k) ∙ slacks m i (omega arith) k));
}

-- A total of products whose first factors turn their sign.
total_minus : (m : ℕ) (x y : ℕ → ℤ) → total_below m (λ r. neg_ℤ (x r) *ℤ y r) ≡ neg_ℤ (total_below m (λ r. x r *ℤ y r))
total_minus m x y =
    total_below-agree m (λ r. neg_ℤ (x r) *ℤ y r) (λ r. neg_ℤ (pos 1) *ℤ (x r *ℤ y r))
    (λ r l. mul-neg_left (x r) (y r) ∙ minus_one (x r *ℤ y r))
    ∙ (total_below-times m (neg_ℤ (pos 1)) (λ r. x r *ℤ y r) ∙ sym (minus_one (total_below m (λ r. x r *ℤ y r))))
  where
    minus_one : (a : ℤ) → neg_ℤ a ≡ neg_ℤ (pos 1) *ℤ a
    minus_one a = omega (arith, ints)

-- Where the objective's cell of column c is not above zero, the duals cover its cost.
pub end_covers : (m n : ℕ) (first : ℕ → ℕ → ℤ) (d : ℤ) (x : ℕ → ℤ) (c : ℕ) → IsMix m n first d x → x c ≤ℤ pos 0
    → (d *ℤ first m c) ≤ℤ total_below m (λ r. neg_ℤ (x (n + r)) *ℤ first r c)
end_covers m n first d x c h below = covered _ _ _ _ (h.mixed c) (total_minus m (λ r. x (n + r)) (λ r. first r c)) below
  where
    covered : (a b s t : ℤ) → a ≡ b +ℤ s → t ≡ neg_ℤ s → a ≤ℤ pos 0 → b ≤ℤ t
    covered a b s t p q l = omega (arith, ints)

-- Where the objective row starts with zero, the duals' total there is minus its cell.
pub end_value : (m n : ℕ) (first : ℕ → ℕ → ℤ) (d : ℤ) (x : ℕ → ℤ) (w : ℕ) → IsMix m n first d x → first m w ≡ pos 0
    → total_below m (λ r. neg_ℤ (x (n + r)) *ℤ first r w) ≡ neg_ℤ (x w)
end_value m n first d x w h none =
    total_minus m (λ r. x (n + r)) (λ r. first r w)
    ∙ ap neg_ℤ (alone _ d _ (h.mixed w ∙ ap (λ c. (d *ℤ c) +ℤ total_below m (λ r. x (n + r) *ℤ first r w)) none))
  where
    alone : (a k s : ℤ) → a ≡ (k *ℤ pos 0) +ℤ s → s ≡ a
    alone a k s p = omega (arith, ints)

-- What has variable v, where each row's basic variable has the number x of the row?
abbrev pub at_variable : ℕ → (ℕ → ℕ) → (ℕ → ℤ) → ℕ → ℤ
at_variable m basic x v = total_below m (λ i. only_at (basic i) (x i) v)

pub at_variable-nonneg : (m : ℕ) (basic : ℕ → ℕ) (x : ℕ → ℤ) (v : ℕ) → ((i : ℕ) → i < m → pos 0 ≤ℤ x i) → pos 0 ≤ℤ at_variable m basic x v
at_variable-nonneg m basic x v h = total_below-nonneg m (λ i. only_at (basic i) (x i) v) (λ i l. elim (cases_eq v (basic i)) [
  | inl here ↦ rw (here, only_at-here (basic i) (x i)) (h i l)
  | inr away ↦ rw (only_at-away (basic i) (x i) v away) (omega (arith, ints))
])

-- A variable that is basic in one row alone has that row's number, and one that is basic in none has zero.
pub at_variable-basic : (m : ℕ) (basic : ℕ → ℕ) (x : ℕ → ℤ) (i : ℕ) → i < m → ((j : ℕ) → j < m → (j ≡ i → ⊥) → basic j ≡ basic i → ⊥)
    → at_variable m basic x (basic i) ≡ x i
at_variable-basic m basic x i l apart =
    total_below-agree m (λ j. only_at (basic j) (x j) (basic i)) (only_at i (x i)) (λ j k. elim (cases_eq j i) [
      | inl here ↦ rw (here, only_at-here (basic i) (x i), only_at-here i (x i)) refl
      | inr away ↦ rw (only_at-away (basic j) (x j) (basic i) (λ e. apart j k away (sym e)), only_at-away i (x i) j away) refl
    ])
    ∙ total_below-only m i (x i) l

pub at_variable-none : (m : ℕ) (basic : ℕ → ℕ) (x : ℕ → ℤ) (v : ℕ) → ((i : ℕ) → i < m → basic i ≡ v → ⊥) → at_variable m basic x v ≡ pos 0
at_variable-none m basic x v h =
    total_below-zero m (λ i. only_at (basic i) (x i) v) (λ i l. only_at-away (basic i) (x i) v (λ e. h i l (sym e)))

pub only_times : (g : ℕ → ℤ) (b v : ℕ) (y : ℤ) → g v *ℤ only_at b y v ≡ only_at b (g b *ℤ y) v
only_times g b v y = elim (cases_eq v b) [
  | inl here ↦ rw (here, only_at-here b y, only_at-here b (g b *ℤ y)) refl
  | inr away ↦ rw (only_at-away b y v away, only_at-away b (g b *ℤ y) v away) (mul-zero (g v))
]

-- A total over the rows, by their basic variables, is one over the variables.
pub by_variables : (m n : ℕ) (basic : ℕ → ℕ) (g x : ℕ → ℤ) → ((i : ℕ) → i < m → basic i < n)
    → total_below m (λ i. g (basic i) *ℤ x i) ≡ total_below n (λ v. g v *ℤ at_variable m basic x v)
by_variables m n basic g x within =
    total_below-agree m (λ i. g (basic i) *ℤ x i) (λ i. total_below n (λ v. g v *ℤ only_at (basic i) (x i) v)) (λ i l.
    sym (total_below-agree n (λ v. g v *ℤ only_at (basic i) (x i) v) (only_at (basic i) (g (basic i) *ℤ x i))
    (λ v k. only_times g (basic i) v (x i))
    ∙ total_below-only n (basic i) (g (basic i) *ℤ x i) (within i l)))
    ∙ (total_below-swap m n (λ i v. g v *ℤ only_at (basic i) (x i) v)
    ∙ total_below-agree n (λ v. total_below m (λ i. g v *ℤ only_at (basic i) (x i) v)) (λ v. g v *ℤ at_variable m basic x v)
    (λ v l. total_below-times m (g v) (λ i. only_at (basic i) (x i) v)))

-- A row that is not below zero at the slacks holds, over the columns, at most its limit.
pub end_row : (m n w : ℕ) (d : ℤ) (g : ℕ → ℤ) (z : ℕ → ℕ → ℤ) (basic : ℕ → ℕ) → IsRead m d (pos 0) g z basic
    → ((i : ℕ) → i < m → basic i < n + m) → ((v : ℕ) → pos 0 ≤ℤ g v) → ((i : ℕ) → i < m → pos 0 ≤ℤ z i w)
    → total_below n (λ c. g c *ℤ at_variable m basic (λ i. z i w) c) ≤ℤ (d *ℤ g w)
end_row m n w d g z basic h within above limits =
    let values : ℕ → ℤ = at_variable m basic (λ i. z i w) in
    let all = by_variables m (n + m) basic g (λ i. z i w) within in
    let split = total_below-split n m (λ v. g v *ℤ values v) in
    let rest : pos 0 ≤ℤ total_below m (λ k. g (n + k) *ℤ values (n + k))
    = total_below-nonneg m (λ k. g (n + k) *ℤ values (n + k)) (λ k l. times_nonneg (g (n + k)) (values (n + k))
    (above (n + k)) (at_variable-nonneg m basic (λ i. z i w) (n + k) limits)) in
    at_most (d *ℤ g w) (z m w) _ _ _ _ (h.read w) all split rest
  where
    at_most : (l o s t a b : ℤ) → l ≡ (pos 0 *ℤ o) +ℤ s → s ≡ t → t ≡ a +ℤ b → pos 0 ≤ℤ b → a ≤ℤ l
    at_most l o s t a b p q r u = omega (arith, ints)

-- The columns are worth minus the objective's cell, where the objective row starts with zero there and at the slacks.
pub end_objective : (m n w : ℕ) (d : ℤ) (g : ℕ → ℤ) (z : ℕ → ℕ → ℤ) (basic : ℕ → ℕ) → IsRead m d (pos 1) g z basic
    → ((i : ℕ) → i < m → basic i < n + m) → g w ≡ pos 0 → ((k : ℕ) → k < m → g (n + k) ≡ pos 0)
    → total_below n (λ c. g c *ℤ at_variable m basic (λ i. z i w) c) ≡ neg_ℤ (z m w)
end_objective m n w d g z basic h within none slacks =
    let values : ℕ → ℤ = at_variable m basic (λ i. z i w) in
    let all = by_variables m (n + m) basic g (λ i. z i w) within in
    let split = total_below-split n m (λ v. g v *ℤ values v) in
    let rest : total_below m (λ k. g (n + k) *ℤ values (n + k)) ≡ pos 0
    = total_below-zero m (λ k. g (n + k) *ℤ values (n + k))
    (λ k l. ap (λ c. c *ℤ values (n + k)) (slacks k l) ∙ zero-mul (values (n + k))) in
    worth_is d (z m w) _ _ _ _ (sym (ap (λ c. d *ℤ c) none) ∙ h.read w) all split rest
  where
    worth_is : (d o s t a b : ℤ) → d *ℤ pos 0 ≡ (pos 1 *ℤ o) +ℤ s → s ≡ t → t ≡ a +ℤ b → b ≡ pos 0 → a ≡ neg_ℤ o
    worth_is d o s t a b p q r u = omega (arith, ints)
