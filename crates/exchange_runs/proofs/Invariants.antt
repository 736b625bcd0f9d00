-- What an exchange keeps of a table of whole numbers z over one denominator d: m rows, the objective row m, n columns and then
-- the slacks. `first` is the table that the run starts with, over 1.
use Rattle.std.proofs.Common.{◌≡◌, ℕ, ◌+◌, ◌<◌, ℤ, pos, ◌+ℤ◌, ◌-ℤ◌, ◌*ℤ◌, neg_ℤ, ◌≤ℤ◌, ◌<ℤ◌, inl, inr, refl, ap, ◌∙◌}
use Rattle.std.proofs.Common.{sym, arith, if◌then◌else◌, nat_eq}
use Rattle.std.proofs.lemmas.Int.{ints, by_lt_z}
use Rattle.std.proofs.lemmas.Bool.{cases_eq, eq-eqb, ne_eqb}
use Rattle.number_laws.proofs.Ring.{as_diff, diffs, same_diff, by_two, mul-comm, mul-neg_left}
use Rattle.number_laws.proofs.Order.{times_nonneg, times_positive, weaker}
use Rattle.number_laws.specs.WholeSums.{total_below, only_at}
use Rattle.number_laws.proofs.TotalLaws.{total_below-agree, total_below-plus, total_below-mix, total_below-times}
use Rattle.number_laws.proofs.TotalLaws.{total_below-nonneg, total_below-only, only_at-here, only_at-away}
use Rattle.exchange_runs.proofs.Signs.{turned}

-- Is the row x `times` the first objective row, and each first row as many times as x has at its slack?
pub record IsMix (m n : ℕ) (first : ℕ → ℕ → ℤ) (times : ℤ) (x : ℕ → ℤ) : Type 0 where
  pub mixed : (v : ℕ) → x v ≡ (times *ℤ first m v) +ℤ total_below m (λ r. x (n + r) *ℤ first r v)

-- Can the row g be read off the table: g at each row's basic variable, times that row, and k times the objective row?
pub record IsRead (m : ℕ) (d k : ℤ) (g : ℕ → ℤ) (z : ℕ → ℕ → ℤ) (basic : ℕ → ℕ) : Type 0 where
  pub read : (v : ℕ) → d *ℤ g v ≡ (k *ℤ z m v) +ℤ total_below m (λ i. g (basic i) *ℤ z i v)

-- The whole numbers after an exchange at row r and variable e, over d times z r e.
abbrev pub exchanged : ℕ → ℕ → ℤ → (ℕ → ℕ → ℤ) → ℕ → ℕ → ℤ
exchanged r e d z i v = if nat_eq i r then d *ℤ z r v else (z r e *ℤ z i v) -ℤ (z i e *ℤ z r v)

pub exchanged-here : (r e : ℕ) (d : ℤ) (z : ℕ → ℕ → ℤ) (v : ℕ) → exchanged r e d z r v ≡ d *ℤ z r v
exchanged-here r e d z v = rw (eq-eqb r r refl) refl

pub exchanged-away : (r e : ℕ) (d : ℤ) (z : ℕ → ℕ → ℤ) (i v : ℕ) → (i ≡ r → ⊥)
    → exchanged r e d z i v ≡ (z r e *ℤ z i v) -ℤ (z i e *ℤ z r v)
exchanged-away r e d z i v h = rw (ne_eqb i r h) refl

pub mix_agree : (m n : ℕ) (first : ℕ → ℕ → ℤ) (w u : ℤ) (x y : ℕ → ℤ) → w ≡ u → ((v : ℕ) → y v ≡ x v)
    → IsMix m n first w x → IsMix m n first u y
mix_agree m n first w u x y e same h = record {
  mixed = λ v. same v ∙ (h.mixed v ∙ (ap (λ c. (c *ℤ first m v) +ℤ total_below m (λ r. x (n + r) *ℤ first r v)) e
      ∙ ap (λ s. (u *ℤ first m v) +ℤ s) (total_below-agree m (λ r. x (n + r) *ℤ first r v) (λ r. y (n + r) *ℤ first r v)
      (λ r l. ap (λ c. c *ℤ first r v) (sym (same (n + r)))))));
}

less_ring : (q w u f t a b s z : ℤ) → a ≡ (w *ℤ t) +ℤ s → b ≡ (u *ℤ t) +ℤ z
    → (q *ℤ a) -ℤ (f *ℤ b) ≡ (((q *ℤ w) -ℤ (f *ℤ u)) *ℤ t) +ℤ ((q *ℤ s) +ℤ (neg_ℤ f *ℤ z))
less_ring q w u f t a b s z h k =
    by_two q h (neg_ℤ f) k _ _
    (rw (as_diff q, as_diff w, as_diff u, as_diff f, as_diff t, as_diff a, as_diff b, as_diff s, as_diff z)
    (simp diffs (same_diff _ _ _ _ (omega arith))))

term_ring : (q f a b t : ℤ) → (q *ℤ (a *ℤ t)) +ℤ (neg_ℤ f *ℤ (b *ℤ t)) ≡ ((q *ℤ a) -ℤ (f *ℤ b)) *ℤ t
term_ring q f a b t = rw (as_diff q, as_diff f, as_diff a, as_diff b, as_diff t) (simp diffs (same_diff _ _ _ _ (omega arith)))

-- q times one mix less f times another.
pub mix_less : (m n : ℕ) (first : ℕ → ℕ → ℤ) (q f w u : ℤ) (x y : ℕ → ℤ) → IsMix m n first w x → IsMix m n first u y
    → IsMix m n first ((q *ℤ w) -ℤ (f *ℤ u)) (λ v. (q *ℤ x v) -ℤ (f *ℤ y v))
mix_less m n first q f w u x y hx hy = record {
  mixed = λ v.
      let one : ℕ → ℤ = λ r. x (n + r) *ℤ first r v in
      let other : ℕ → ℤ = λ r. y (n + r) *ℤ first r v in
      let sums : total_below m (λ r. ((q *ℤ x (n + r)) -ℤ (f *ℤ y (n + r))) *ℤ first r v)
      ≡ (q *ℤ total_below m one) +ℤ (neg_ℤ f *ℤ total_below m other)
      = total_below-agree m (λ r. ((q *ℤ x (n + r)) -ℤ (f *ℤ y (n + r))) *ℤ first r v) (λ r. (q *ℤ one r) +ℤ (neg_ℤ f *ℤ other r))
      (λ r l. sym (term_ring q f (x (n + r)) (y (n + r)) (first r v)))
      ∙ total_below-mix m q (neg_ℤ f) one other in
      less_ring q w u f (first m v) (x v) (y v) (total_below m one) (total_below m other) (hx.mixed v) (hy.mixed v)
      ∙ ap (λ s. (((q *ℤ w) -ℤ (f *ℤ u)) *ℤ first m v) +ℤ s) (sym sums);
}

nothing_less : (d a b : ℤ) → d *ℤ a ≡ (d *ℤ a) -ℤ (pos 0 *ℤ b)
nothing_less d a b = rw (as_diff d, as_diff a, as_diff b) (omega (arith, ints))

-- A mix, multiplied.
pub mix_times : (m n : ℕ) (first : ℕ → ℕ → ℤ) (d w : ℤ) (x : ℕ → ℤ) → IsMix m n first w x → IsMix m n first (d *ℤ w) (λ v. d *ℤ x v)
mix_times m n first d w x h =
    mix_agree m n first ((d *ℤ w) -ℤ (pos 0 *ℤ w)) (d *ℤ w) (λ v. (d *ℤ x v) -ℤ (pos 0 *ℤ x v)) (λ v. d *ℤ x v)
    (sym (nothing_less d w w)) (λ v. nothing_less d (x v) (x v)) (mix_less m n first d (pos 0) w w x x h h)

-- A row is a mix after an exchange at a row that is a mix of the first rows alone.
pub mix_after : (m n : ℕ) (first : ℕ → ℕ → ℤ) (d w : ℤ) (z : ℕ → ℕ → ℤ) (r e i : ℕ) → (i ≡ r → ⊥)
    → IsMix m n first (pos 0) (z r) → IsMix m n first w (z i)
    → IsMix m n first (z r e *ℤ w) (exchanged r e d z i)
mix_after m n first d w z r e i away hr hi =
    mix_agree m n first ((z r e *ℤ w) -ℤ (z i e *ℤ pos 0)) (z r e *ℤ w) (λ v. (z r e *ℤ z i v) -ℤ (z i e *ℤ z r v)) (exchanged r e d z i)
    (no_more (z r e *ℤ w) (z i e)) (λ v. exchanged-away r e d z i v away) (mix_less m n first (z r e) (z i e) w (pos 0) (z i) (z r) hi hr)
  where
    no_more : (a b : ℤ) → a -ℤ (b *ℤ pos 0) ≡ a
    no_more a b = omega (arith, ints)

pub mix_after_itself : (m n : ℕ) (first : ℕ → ℕ → ℤ) (d : ℤ) (z : ℕ → ℕ → ℤ) (r e : ℕ) → IsMix m n first (pos 0) (z r)
    → IsMix m n first (pos 0) (exchanged r e d z r)
mix_after_itself m n first d z r e h =
    mix_agree m n first (d *ℤ pos 0) (pos 0) (λ v. d *ℤ z r v) (exchanged r e d z r)
    (none d) (λ v. exchanged-here r e d z v) (mix_times m n first d (pos 0) (z r) h)
  where
    none : (a : ℤ) → a *ℤ pos 0 ≡ pos 0
    none a = omega (arith, ints)

here_ring : (g h d q y : ℤ) → h *ℤ (d *ℤ y) ≡ ((q *ℤ (g *ℤ y)) +ℤ (neg_ℤ y *ℤ (g *ℤ q))) +ℤ (h *ℤ (d *ℤ y))
here_ring g h d q y = rw (as_diff g, as_diff h, as_diff d, as_diff q, as_diff y) (simp diffs (same_diff _ _ _ _ (omega arith)))

away_ring : (g q y a b : ℤ) → g *ℤ ((q *ℤ a) -ℤ (b *ℤ y)) ≡ (q *ℤ (g *ℤ a)) +ℤ (neg_ℤ y *ℤ (g *ℤ b))
away_ring g q y a b = rw (as_diff g, as_diff q, as_diff y, as_diff a, as_diff b) (simp diffs (same_diff _ _ _ _ (omega arith)))

with_none : (a : ℤ) → a ≡ a +ℤ pos 0
with_none a = omega (arith, ints)

read_ring : (d k gv ge zv ze q y s t : ℤ) → d *ℤ gv ≡ (k *ℤ zv) +ℤ s → d *ℤ ge ≡ (k *ℤ ze) +ℤ t
    → (d *ℤ q) *ℤ gv ≡ (k *ℤ ((q *ℤ zv) -ℤ (ze *ℤ y))) +ℤ (((q *ℤ s) +ℤ (neg_ℤ y *ℤ t)) +ℤ (ge *ℤ (d *ℤ y)))
read_ring d k gv ge zv ze q y s t h j =
    by_two q h (neg_ℤ y) j _ _
    (rw
    (as_diff d, as_diff k, as_diff gv, as_diff ge, as_diff zv, as_diff ze, as_diff q, as_diff y, as_diff s, as_diff t)
    (simp diffs (same_diff _ _ _ _ (omega arith))))

-- What can be read off a table can be read off after an exchange.
pub read_after : (m : ℕ) (d k : ℤ) (g : ℕ → ℤ) (z : ℕ → ℕ → ℤ) (basic next : ℕ → ℕ) (r e : ℕ) → r < m
    → next r ≡ e → ((i : ℕ) → i < m → (i ≡ r → ⊥) → next i ≡ basic i)
    → IsRead m d k g z basic → IsRead m (d *ℤ z r e) k g (exchanged r e d z) next
read_after m d k g z basic next r e within entered stayed h = record {
  read = λ v.
      let q : ℤ = z r e in
      let y : ℤ = z r v in
      let one : ℕ → ℤ = λ i. g (basic i) *ℤ z i v in
      let other : ℕ → ℤ = λ i. g (basic i) *ℤ z i e in
      let mix : ℕ → ℤ = λ i. (q *ℤ one i) +ℤ (neg_ℤ y *ℤ other i) in
      let extra : ℕ → ℤ = only_at r (g e *ℤ (d *ℤ y)) in
      let each : (i : ℕ) → i < m → g (next i) *ℤ exchanged r e d z i v ≡ mix i +ℤ extra i = λ i l. elim (cases_eq i r) [
        | inl here ↦
            rw here (
            ap (λ b. g b *ℤ exchanged r e d z r v) entered
            ∙ (ap (λ c. g e *ℤ c) (exchanged-here r e d z v)
            ∙ (here_ring (g (basic r)) (g e) d q y
            ∙ ap (λ c. mix r +ℤ c) (sym (only_at-here r (g e *ℤ (d *ℤ y)))))))
        | inr away ↦
            ap (λ b. g b *ℤ exchanged r e d z i v) (stayed i l away)
            ∙ (ap (λ c. g (basic i) *ℤ c) (exchanged-away r e d z i v away)
            ∙ (away_ring (g (basic i)) q y (z i v) (z i e)
            ∙ (with_none (mix i) ∙ ap (λ c. mix i +ℤ c) (sym (only_at-away r (g e *ℤ (d *ℤ y)) i away)))))
      ] in
      let sums : total_below m (λ i. g (next i) *ℤ exchanged r e d z i v)
      ≡ ((q *ℤ total_below m one) +ℤ (neg_ℤ y *ℤ total_below m other)) +ℤ (g e *ℤ (d *ℤ y))
      = total_below-agree m (λ i. g (next i) *ℤ exchanged r e d z i v) (λ i. mix i +ℤ extra i) each
      ∙ (total_below-plus m mix extra
      ∙ (ap (λ s. s +ℤ total_below m extra) (total_below-mix m q (neg_ℤ y) one other)
      ∙ ap (λ s. ((q *ℤ total_below m one) +ℤ (neg_ℤ y *ℤ total_below m other)) +ℤ s) (total_below-only m r (g e *ℤ (d *ℤ y)) within))) in
      let objective : exchanged r e d z m v ≡ (q *ℤ z m v) -ℤ (z m e *ℤ y) = exchanged-away r e d z m v (λ same. omega arith) in
      read_ring d k (g v) (g e) (z m v) (z m e) q y (total_below m one) (total_below m other) (h.read v) (h.read e)
      ∙ (ap (λ c. (k *ℤ c) +ℤ (((q *ℤ total_below m one) +ℤ (neg_ℤ y *ℤ total_below m other)) +ℤ (g e *ℤ (d *ℤ y)))) (sym objective)
      ∙ ap (λ s. (k *ℤ exchanged r e d z m v) +ℤ s) (sym sums));
}

-- Take a row that is nowhere below zero, can be read without the objective, and is above zero at e. Then some cell at e is above zero.
pub never_unbounded : (m e : ℕ) (d : ℤ) (g : ℕ → ℤ) (z : ℕ → ℕ → ℤ) (basic : ℕ → ℕ) → pos 0 <ℤ d → ((v : ℕ) → pos 0 ≤ℤ g v) → pos 0 <ℤ g e
    → IsRead m d (pos 0) g z basic → ((i : ℕ) → i < m → z i e ≤ℤ pos 0) → ⊥
never_unbounded m e d g z basic pd above at_e h none =
    let left : pos 0 <ℤ (d *ℤ g e) = times_positive d (g e) pd at_e in
    let flipped : pos 0 ≤ℤ total_below m (λ i. g (basic i) *ℤ neg_ℤ (z i e))
    = total_below-nonneg m (λ i. g (basic i) *ℤ neg_ℤ (z i e))
    (λ i l. times_nonneg (g (basic i)) (neg_ℤ (z i e)) (above (basic i)) (turned (none i l))) in
    let minus : total_below m (λ i. g (basic i) *ℤ neg_ℤ (z i e)) ≡ neg_ℤ (pos 1) *ℤ total_below m (λ i. g (basic i) *ℤ z i e)
    = total_below-agree m (λ i. g (basic i) *ℤ neg_ℤ (z i e)) (λ i. neg_ℤ (pos 1) *ℤ (g (basic i) *ℤ z i e))
    (λ i l. minus_ring (g (basic i)) (z i e))
    ∙ total_below-times m (neg_ℤ (pos 1)) (λ i. g (basic i) *ℤ z i e) in
    clash (d *ℤ g e) (z m e) (total_below m (λ i. g (basic i) *ℤ z i e))
    (total_below m (λ i. g (basic i) *ℤ neg_ℤ (z i e))) left (h.read e) minus flipped
  where
    minus_ring : (a b : ℤ) → a *ℤ neg_ℤ b ≡ neg_ℤ (pos 1) *ℤ (a *ℤ b)
    minus_ring a b = out a b ∙ minus_one (a *ℤ b)
      where
        out : (x y : ℤ) → x *ℤ neg_ℤ y ≡ neg_ℤ (x *ℤ y)
        out x y = rw (as_diff x, as_diff y) (simp diffs (same_diff _ _ _ _ (omega arith)))

        minus_one : (x : ℤ) → neg_ℤ x ≡ neg_ℤ (pos 1) *ℤ x
        minus_one x = omega (arith, ints)

    clash : (x c s t : ℤ) → pos 0 <ℤ x → x ≡ (pos 0 *ℤ c) +ℤ s → t ≡ neg_ℤ (pos 1) *ℤ s → pos 0 ≤ℤ t → ⊥
    clash x c s t p q r u = omega (arith, ints)

-- The columns of the basis stay unit columns.
pub unit_after : (m : ℕ) (d : ℤ) (z : ℕ → ℕ → ℤ) (basic next : ℕ → ℕ) (r e : ℕ) → r < m
    → next r ≡ e → ((i : ℕ) → i < m → (i ≡ r → ⊥) → next i ≡ basic i)
    → ((i j : ℕ) → i < m → j < m → z i (basic j) ≡ only_at j d i)
    → (i j : ℕ) → i < m → j < m → exchanged r e d z i (next j) ≡ only_at j (d *ℤ z r e) i
unit_after m d z basic next r e within entered stayed unit i j li lj = elim (cases_eq j r) [
  | inl new ↦ rw (new, entered) (elim (cases_eq i r) [
    | inl here ↦ rw here (exchanged-here r e d z e ∙ sym (only_at-here r (d *ℤ z r e)))
    | inr away ↦ exchanged-away r e d z i e away ∙ (none (z r e) (z i e) ∙ sym (only_at-away r (d *ℤ z r e) i away))
  ])
  | inr old ↦ rw (stayed j lj old) (elim (cases_eq i r) [
    | inl here ↦
        rw here (exchanged-here r e d z (basic j)
        ∙ (ap (λ c. d *ℤ c) (unit r j within lj ∙ only_at-away j d r (λ s. old (sym s)))
        ∙ (times_none d ∙ sym (only_at-away j (d *ℤ z r e) r (λ s. old (sym s))))))
    | inr away ↦
        exchanged-away r e d z i (basic j) away
        ∙ (ap (λ c. (z r e *ℤ z i (basic j)) -ℤ (z i e *ℤ c)) (unit r j within lj ∙ only_at-away j d r (λ s. old (sym s)))
        ∙ (less_none (z r e *ℤ z i (basic j)) (z i e)
        ∙ (ap (λ c. z r e *ℤ c) (unit i j li lj) ∙ scaled (z r e))))
  ])
]
  where
    none : (a b : ℤ) → (a *ℤ b) -ℤ (b *ℤ a) ≡ pos 0
    none a b = ap (λ c. c -ℤ (b *ℤ a)) (mul-comm a b) ∙ nothing (b *ℤ a)
      where
        nothing : (x : ℤ) → x -ℤ x ≡ pos 0
        nothing x = omega (arith, ints)

    times_none : (a : ℤ) → a *ℤ pos 0 ≡ pos 0
    times_none a = omega (arith, ints)

    less_none : (a b : ℤ) → a -ℤ (b *ℤ pos 0) ≡ a
    less_none a b = omega (arith, ints)

    scaled : (q : ℤ) → q *ℤ only_at j d i ≡ only_at j (d *ℤ q) i
    scaled q = elim (cases_eq i j) [
      | inl here ↦ rw here (ap (λ c. q *ℤ c) (only_at-here j d) ∙ (mul-comm q d ∙ sym (only_at-here j (d *ℤ q))))
      | inr away ↦ ap (λ c. q *ℤ c) (only_at-away j d i away) ∙ (times_none q ∙ sym (only_at-away j (d *ℤ q) i away))
    ]

-- With the least ratio no limit falls below zero.
pub limits_after : (m : ℕ) (d : ℤ) (z : ℕ → ℕ → ℤ) (r e w : ℕ) → pos 0 <ℤ d → pos 0 <ℤ z r e → r < m
    → ((i : ℕ) → i < m → pos 0 ≤ℤ z i w)
    → ((i : ℕ) → i < m → pos 0 <ℤ z i e → (z r w *ℤ z i e) ≤ℤ (z i w *ℤ z r e))
    → (i : ℕ) → i < m → pos 0 ≤ℤ exchanged r e d z i w
limits_after m d z r e w pd above within limits least i l = elim (cases_eq i r) [
  | inl here ↦ rw (here, exchanged-here r e d z w) (times_nonneg d (z r w) (weaker pd) (limits r within))
  | inr away ↦ rw (exchanged-away r e d z i w away) (by_lt_z (pos 0) (z i e)
      (λ ratio. apart _ _ (at_most (z r w) (z i e) (z i w) (z r e) (least i l ratio)))
      (λ none.
      apart _ _ (across (z r e) (z i w) (z i e) (z r w) (times_nonneg (z r e) (z i w) (weaker above) (limits i l))
      (times_nonneg (neg_ℤ (z i e)) (z r w) (turned none) (limits r within)))))
]
  where
    apart : (x y : ℤ) → y ≤ℤ x → pos 0 ≤ℤ (x -ℤ y)
    apart x y p = omega (arith, ints)

    at_most : (a b x y : ℤ) → (a *ℤ b) ≤ℤ (x *ℤ y) → (b *ℤ a) ≤ℤ (y *ℤ x)
    at_most a b x y p = rw (mul-comm b a, mul-comm y x) p

    across : (q x b y : ℤ) → pos 0 ≤ℤ (q *ℤ x) → pos 0 ≤ℤ (neg_ℤ b *ℤ y) → (b *ℤ y) ≤ℤ (q *ℤ x)
    across q x b y p s = over _ _ p (rw (mul-neg_left b y) at s)
      where
        over : (u v : ℤ) → pos 0 ≤ℤ u → pos 0 ≤ℤ neg_ℤ v → v ≤ℤ u
        over u v h k = omega (arith, ints)
