-- Where no variable past t moves and the value stays, t does not both leave and enter.
use Rattle.std.proofs.Common.{◌≡◌, ◌⊎◌, inl, inr, ℕ, ◌<◌, ◌≤◌, ℤ, pos, ◌+ℤ◌, ◌-ℤ◌, ◌*ℤ◌, neg_ℤ, ◌≤ℤ◌, ◌<ℤ◌, ap, ◌∙◌, sym, subst, arith}
use Rattle.std.proofs.lemmas.Int.{ints, by_lt_z}
use Rattle.std.proofs.lemmas.Bool.{cases_eq, cases_lt}
use Rattle.number_laws.proofs.Ring.{as_diff, diffs, same_diff, mul-comm, mul-zero}
use Rattle.number_laws.proofs.Order.{times_nonneg, times_positive, times_le, cancel_lt, weaker}
use Rattle.number_laws.proofs.TotalLaws.{total_below-nonneg}
use Rattle.program_form.specs.Program.{ProgramDef, height}
use Rattle.exchange_runs.specs.Table.{variables}
use Rattle.exchange_runs.proofs.Signs.{turned}
use Rattle.exchange_runs.proofs.Invariants.{exchanged-here, exchanged-away}
use Rattle.fraction128.proofs.Unique.{apart_of_positive}
use Rattle.exchange_runs.proofs.FreeStates.{State, IsGood, Enters, Leaves, IsStep, IsBasic, objective_read, basic_zero, apart, above_same}

-- Is row i firm: is its basic variable past t, or its limit above zero?
abbrev pub IsFirm : ProgramDef → ℕ → State → ℕ → Type 0
IsFirm p t s i = (t < s.basic i) ⊎ (pos 0 <ℤ s.z i (variables p))

-- a product of two numbers that are not above zero
both_below : (a b : ℤ) → a ≤ℤ pos 0 → b ≤ℤ pos 0 → pos 0 ≤ℤ (a *ℤ b)
both_below a b h k = over _ _ (both a b) (times_nonneg (neg_ℤ a) (neg_ℤ b) (turned h) (turned k))
  where
    both : (x y : ℤ) → x *ℤ y ≡ neg_ℤ x *ℤ neg_ℤ y
    both x y = rw (as_diff x, as_diff y) (simp diffs (same_diff _ _ _ _ (omega arith)))

    over : (x y : ℤ) → x ≡ y → pos 0 ≤ℤ y → pos 0 ≤ℤ x
    over x y e l = omega (arith, ints)

zero_times : (a b : ℤ) → a ≡ pos 0 → pos 0 ≤ℤ (a *ℤ b)
zero_times a b h = rw h (none b)
  where
    none : (x : ℤ) → pos 0 ≤ℤ (pos 0 *ℤ x)
    none x = omega (arith, ints)

-- a ratio of a limit that is not above zero is no greater than any
least_ratio : (x q y c : ℤ) → x ≤ℤ pos 0 → pos 0 <ℤ q → pos 0 ≤ℤ y → pos 0 <ℤ c → (x *ℤ q) ≤ℤ (y *ℤ c)
least_ratio x q y c h pq hy pc = between _ _ q (times_le x (pos 0) q (weaker pq) h) (times_nonneg y c hy (weaker pc))
  where
    between : (a b k : ℤ) → a ≤ℤ (pos 0 *ℤ k) → pos 0 ≤ℤ b → a ≤ℤ b
    between a b k l g = omega (arith, ints)

-- In s row r leaves with t where e enters, in g t enters, and the firm rows' variables of s are basic in g. That can't be.
pub no_return : (p : ProgramDef) (s g : State) (e r t : ℕ) → IsGood p s → IsGood p g → Enters p s e → Leaves p s e r → s.basic r ≡ t
    → Enters p g t → e ≤ t
    → ((i : ℕ) → i < height p → IsFirm p t s i → IsBasic p (s.basic i) g) → ⊥
no_return p s g e r t hs hg enters leaves is_t returns e_to firm =
    clash _ _ _ _ (objective_read p g s e hg hs)
    (times_le (g.z m e) (pos 0) s.d (weaker hs.positive) (returns.least e e_below))
    (times_positive g.d (s.z m e) hg.positive enters.above)
    (total_below-nonneg m (λ i. g.z m (s.basic i) *ℤ s.z i e) each)
    (mul-comm s.d (g.z m e))
  where
    m : ℕ
    m = height p

    e_below : e < t
    e_below = elim (cases_eq e t) [
      | inl same ↦ absurd (apart_of_positive _ enters.above
          (basic_zero p s e hs (record { of_row = r; within = leaves.within; is = is_t ∙ sym same })))
      | inr away ↦ omega arith
    ]

    of_firm : (i : ℕ) → i < height p → IsFirm p t s i → pos 0 ≤ℤ (g.z (height p) (s.basic i) *ℤ s.z i e)
    of_firm i l f = zero_times _ _ (basic_zero p g (s.basic i) hg (firm i l f))

    of_flat : (i : ℕ) → i < height p → s.basic i ≤ t → s.z i (variables p) ≤ℤ pos 0 → pos 0 ≤ℤ (g.z (height p) (s.basic i) *ℤ s.z i e)
    of_flat i l to none = elim (cases_eq (s.basic i) t) [
      | inl same ↦
          let one : i ≡ r = apart p s i r hs l leaves.within (same ∙ sym is_t) in
          times_nonneg _ _ (subst (λ (v : ℕ). pos 0 ≤ℤ g.z (height p) v) (sym same) (weaker returns.above))
          (subst (λ (k : ℕ). pos 0 ≤ℤ s.z k e) (sym one) (weaker leaves.pivot))
      | inr away ↦
          let before : s.basic i < t = omega arith in
          both_below _ _ (returns.least (s.basic i) before)
          (by_lt_z (pos 0) (s.z i e)
          (λ above. absurd (not_first (s.basic r) (s.basic i) is_t before
          (leaves.tie i l above (least_ratio (s.z i (variables p)) (s.z r e) (s.z r (variables p)) (s.z i e) none leaves.pivot
          (hs.limits r leaves.within) above))))
          (λ below. below))
    ]
      where
        not_first : (b c : ℕ) → b ≡ t → c < t → b ≤ c → ⊥
        not_first b c q l k = omega arith

    each : (i : ℕ) → i < height p → pos 0 ≤ℤ (g.z (height p) (s.basic i) *ℤ s.z i e)
    each i l = elim (cases_lt t (s.basic i)) [
      | inl past ↦ of_firm i l (inl past)
      | inr to ↦ by_lt_z (pos 0) (s.z i (variables p)) (λ above. of_firm i l (inr above)) (λ none. of_flat i l to none)
    ]

    clash : (x a b k : ℤ) → x ≡ b +ℤ k → a ≤ℤ (pos 0 *ℤ s.d) → pos 0 <ℤ b → pos 0 ≤ℤ k → x ≡ a → ⊥
    clash x a b k q l h n e = none s.d x a b k q l h n e
      where
        none : (d x a b k : ℤ) → x ≡ b +ℤ k → a ≤ℤ (pos 0 *ℤ d) → pos 0 <ℤ b → pos 0 ≤ℤ k → x ≡ a → ⊥
        none d x a b k q l h n e = omega (arith, ints)

-- If the leaving limit is zero, another row's limit is only multiplied.
limit_after : (q x b y : ℤ) → y ≡ pos 0 → (q *ℤ x) -ℤ (b *ℤ y) ≡ x *ℤ q
limit_after q x b y h = rw h (less_none q x b)
  where
    less_none : (q x b : ℤ) → (q *ℤ x) -ℤ (b *ℤ pos 0) ≡ x *ℤ q
    less_none q x b = drop (q *ℤ x) (x *ℤ q) b (mul-comm q x)
      where
        drop : (a c b : ℤ) → a ≡ c → a -ℤ (b *ℤ pos 0) ≡ c
        drop a c b e = omega (arith, ints)

zero_scaled : (d x : ℤ) → x ≡ pos 0 → d *ℤ x ≡ pos 0
zero_scaled d x h = rw h (mul-zero d)

limit_cell : (p : ProgramDef) (s u : State) (e r i : ℕ) → IsStep p s e r u → s.z r (variables p) ≡ pos 0 → (i ≡ r → ⊥)
    → u.z i (variables p) ≡ s.z i (variables p) *ℤ s.z r e
limit_cell p s u e r i step flat away =
    step.cells i (variables p) ∙ (exchanged-away r e s.d s.z i (variables p) away
    ∙ limit_after (s.z r e) (s.z i (variables p)) (s.z i e) (s.z r (variables p)) flat)

-- In an exchange where the value stays and no variable past t moves, a firm row keeps its variable and stays firm.
pub firm_on : (p : ProgramDef) (t : ℕ) (s u : State) (e r i : ℕ) → IsStep p s e r u → s.basic r ≤ t → s.z r (variables p) ≡ pos 0
    → i < height p
    → IsFirm p t s i → IsFirm p t u i × (u.basic i ≡ s.basic i)
firm_on p t s u e r i step left flat l firm = elim (cases_eq i r) [
  | inl here ↦ absurd (elim firm [
    | inl past ↦ not_past (s.basic i) (s.basic r) (ap s.basic here) past left
    | inr above ↦ apart_of_positive _ above (ap (λ (k : ℕ). s.z k (variables p)) here ∙ flat)
  ])
  | inr away ↦
      let same : u.basic i ≡ s.basic i = step.stayed i l away in (
        elim firm [
          | inl past ↦ inl (omega arith)
          | inr above ↦ inr (above_same _ _ (limit_cell p s u e r i step flat away) (times_positive _ _ above step.leaves.pivot))
        ],
        same,
      )
]
  where
    not_past : (a b : ℕ) → a ≡ b → t < a → b ≤ t → ⊥
    not_past a b e h k = omega arith

-- The same from after the exchange to before it.
pub firm_back : (p : ProgramDef) (t : ℕ) (s u : State) (e r i : ℕ) → IsStep p s e r u → e ≤ t → s.z r (variables p) ≡ pos 0 → i < height p
    → IsFirm p t u i → IsFirm p t s i × (u.basic i ≡ s.basic i)
firm_back p t s u e r i step entered flat l firm = elim (cases_eq i r) [
  | inl here ↦ absurd (elim firm [
    | inl past ↦ not_past (u.basic i) (ap u.basic here ∙ step.entered) past
    | inr above ↦ apart_of_positive _ above (ap (λ (k : ℕ). u.z k (variables p)) here
        ∙ (step.cells r (variables p) ∙ (exchanged-here r e s.d s.z (variables p) ∙ zero_scaled s.d _ flat)))
  ])
  | inr away ↦
      let same : u.basic i ≡ s.basic i = step.stayed i l away in (
        elim firm [
          | inl past ↦ inl (omega arith)
          | inr above ↦ inr (cancel_lt (pos 0) (s.z i (variables p)) (s.z r e) step.leaves.pivot
              (over _ _ (s.z r e) (limit_cell p s u e r i step flat away) above))
        ],
        same,
      )
]
  where
    not_past : (a : ℕ) → a ≡ e → t < a → ⊥
    not_past a q h = omega arith

    over : (x y c : ℤ) → x ≡ y → pos 0 <ℤ x → (pos 0 *ℤ c) <ℤ y
    over x y c q h = omega (arith, ints)
