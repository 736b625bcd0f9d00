-- Whether a program reaches a number is decided by elimination. So a covered program has a greatest number that it reaches.
use Rattle.std.proofs.Common.{◌≡◌, ◌⊎◌, inl, inr, ℕ, zero, suc, ◌+◌, ◌*◌, ◌<◌, ◌≤◌, ℤ, pos, ◌+ℤ◌, ◌-ℤ◌, ◌*ℤ◌, neg_ℤ}
use Rattle.std.proofs.Common.{◌≤ℤ◌, refl, ap, ap₂, ◌∙◌, subst, arith, if◌then◌else◌, nat_lt}
use Rattle.std.proofs.lemmas.Int.{ints}
use Rattle.std.proofs.lemmas.Bool.{cases_lt, lt-ltb, le-ltb}
use Rattle.number_laws.proofs.Ring.{mul-neg_left}
use Rattle.number_laws.specs.Sums.{sum_below}
use Rattle.number_laws.specs.WholeSums.{total_below}
use Rattle.number_laws.proofs.TotalLaws.{total_below-agree, total_below-of_sum}
use Rattle.program_form.specs.Program.{ProgramDef, IsCovered, columns, height, cost, entry, limit}
use Rattle.program_form.specs.Points.{Reaches, IsGreatestReached}
use Rattle.program_form.specs.Duals.{dual_value}
use Rattle.program_form.proofs.Points.{zero_reached, covered_dual}
use Rattle.program_form.proofs.Duality.{dual_bounds}
use Rattle.program_form.proofs.Elimination.{at_naturals, IsSolvable, solvable}

total_first : (n : ℕ) (f : ℕ → ℤ) → total_below (suc n) f ≡ f 0 +ℤ total_below n (λ k. f (suc k))
total_first zero f = omega (arith, ints)
total_first (suc n) f = more _ _ _ (f (suc n)) (total_first n f)
  where
    more : (s a t b : ℤ) → s ≡ a +ℤ t → s +ℤ b ≡ a +ℤ (t +ℤ b)
    more s a t b h = omega (arith, ints)

-- The rows for reaching b, each at most zero: the program's rows less their limits, and after them b less the costs.
abbrev reach_rows : ProgramDef → ℕ → ℕ → ℕ → ℤ
reach_rows p b i zero = if nat_lt i (height p) then neg_ℤ (pos (limit p i)) else pos b
reach_rows p b i (suc c) = if nat_lt i (height p) then pos (entry p i c) else neg_ℤ (pos (cost p c))

-- A row at its scale and columns.
in_parts : (n : ℕ) (x : ℕ → ℤ) (ys : ℕ → ℕ) → at_naturals (suc n) x ys
    ≡ (x 0 *ℤ pos (ys 0)) +ℤ total_below n (λ c. x (suc c) *ℤ pos (ys (suc c)))
in_parts n x ys = total_first n (λ k. x k *ℤ pos (ys k))

row_total : (p : ProgramDef) (b r : ℕ) (ys : ℕ → ℕ) → r < height p
    → at_naturals (suc (columns p)) (reach_rows p b r) ys
    ≡ pos (sum_below (columns p) (λ c. entry p r c * ys (suc c))) -ℤ pos (ys 0 * limit p r)
row_total p b r ys l =
    in_parts (columns p) (reach_rows p b r) ys
    ∙ joined (limit p r) (ys 0) _ _
    (ap (λ x. x *ℤ pos (ys 0)) (scale_is))
    (total_below-agree (columns p) (λ c. reach_rows p b r (suc c) *ℤ pos (ys (suc c))) (λ c. pos (entry p r c * ys (suc c)))
    (λ c k. ap (λ x. x *ℤ pos (ys (suc c))) (column_is c))
    ∙ total_below-of_sum (columns p) (λ c. entry p r c * ys (suc c)))
  where
    scale_is : reach_rows p b r 0 ≡ neg_ℤ (pos (limit p r))
    scale_is = rw (lt-ltb r (height p) l) refl

    column_is : (c : ℕ) → reach_rows p b r (suc c) ≡ pos (entry p r c)
    column_is c = rw (lt-ltb r (height p) l) refl

    joined : (k s : ℕ) (x t : ℤ) {u : ℕ} → x ≡ neg_ℤ (pos k) *ℤ pos s → t ≡ pos u → x +ℤ t ≡ pos u -ℤ pos (s * k)
    joined k s x t {u} q h = over (s * k) (k * s) u x t (omega arith) (q ∙ mul-neg_left (pos k) (pos s)) h
      where
        over : (a b u : ℕ) (x t : ℤ) → a ≡ b → x ≡ neg_ℤ (pos b) → t ≡ pos u → x +ℤ t ≡ pos u -ℤ pos a
        over a b u x t e q h = omega (arith, ints)

worth_total : (p : ProgramDef) (b : ℕ) (ys : ℕ → ℕ)
    → at_naturals (suc (columns p)) (reach_rows p b (height p)) ys
    ≡ pos (b * ys 0) -ℤ pos (sum_below (columns p) (λ c. cost p c * ys (suc c)))
worth_total p b ys =
    in_parts (columns p) (reach_rows p b (height p)) ys
    ∙ ap₂ ◌+ℤ◌ (ap (λ x. x *ℤ pos (ys 0)) scale_is)
    (total_below-agree (columns p) (λ c. reach_rows p b (height p) (suc c) *ℤ pos (ys (suc c)))
    (λ c. neg_ℤ (pos (cost p c)) *ℤ pos (ys (suc c)))
    (λ c k. ap (λ x. x *ℤ pos (ys (suc c))) (column_is c))
    ∙ minus_sum (columns p) (cost p) (λ c. ys (suc c)))
    ∙ as_less (b * ys 0) (sum_below (columns p) (λ c. cost p c * ys (suc c)))
  where
    scale_is : reach_rows p b (height p) 0 ≡ pos b
    scale_is = rw (le-ltb (height p) (height p) (omega arith)) refl

    column_is : (c : ℕ) → reach_rows p b (height p) (suc c) ≡ neg_ℤ (pos (cost p c))
    column_is c = rw (le-ltb (height p) (height p) (omega arith)) refl

    minus_sum : (n : ℕ) (a zs : ℕ → ℕ) → total_below n (λ c. neg_ℤ (pos (a c)) *ℤ pos (zs c))
        ≡ neg_ℤ (pos (sum_below n (λ c. a c * zs c)))
    minus_sum zero a zs = omega (arith, ints)
    minus_sum (suc n) a zs = more _ _ (sum_below n (λ c. a c * zs c)) (a n * zs n) (minus_sum n a zs)
        (mul-neg_left (pos (a n)) (pos (zs n)))
      where
        more : (s t : ℤ) (u v : ℕ) → s ≡ neg_ℤ (pos u) → t ≡ neg_ℤ (pos v) → s +ℤ t ≡ neg_ℤ (pos (u + v))
        more s t u v q h = omega (arith, ints)

    as_less : (u v : ℕ) → pos u +ℤ neg_ℤ (pos v) ≡ pos u -ℤ pos v
    as_less u v = omega (arith, ints)

-- The scale and then the point.
abbrev scale_first : ℕ → (ℕ → ℕ) → ℕ → ℕ
scale_first s ys zero = s
scale_first s ys (suc c) = ys c

reached_by : (p : ProgramDef) (b : ℕ) → Reaches p b → IsSolvable (suc (height p)) (columns p) (reach_rows p b)
reached_by p b h = (
  scale_first h.scale h.point,
  record {
    scale = h.is_point.positive;
    kept = λ i l. elim (cases_lt i (height p)) [
      | inl row ↦ no_more _ _ _ (row_total p b i (scale_first h.scale h.point) row) (h.is_point.kept i row)
      | inr last ↦
          let same : height p ≡ i = omega arith in
          subst (λ (v : ℕ). at_naturals (suc (columns p)) (reach_rows p b v) (scale_first h.scale h.point) ≤ℤ pos 0) same
          (no_more _ _ _ (worth_total p b (scale_first h.scale h.point)) h.reached)
    ];
  },
)
  where
    no_more : (s : ℤ) (u v : ℕ) → s ≡ pos u -ℤ pos v → u ≤ v → s ≤ℤ pos 0
    no_more s u v e h = omega (arith, ints)

solved_by : (p : ProgramDef) (b : ℕ) → IsSolvable (suc (height p)) (columns p) (reach_rows p b) → Reaches p b
solved_by p b h = record {
  scale = h.0 0;
  point = λ c. h.0 (suc c);
  is_point = record { positive = h.1.scale; kept = λ r l. at_most _ _ _ (row_total p b r h.0 l) (h.1.kept r (omega arith)) };
  reached = at_most _ _ _ (worth_total p b h.0) (h.1.kept (height p) (omega arith));
}
  where
    at_most : (s : ℤ) (u v : ℕ) → s ≡ pos u -ℤ pos v → s ≤ℤ pos 0 → u ≤ v
    at_most s u v e h = omega (arith, ints)

-- A program reaches a number, or it does not.
pub reaches : (p : ProgramDef) (b : ℕ) → Reaches p b ⊎ (Reaches p b → ⊥)
reaches p b = elim (solvable (suc (height p)) (columns p) (reach_rows p b)) [
  | inl there ↦ inl (solved_by p b there)
  | inr none ↦ inr (λ h. none (reached_by p b h))
]

-- Below a bound of what is reached there is a greatest number that is reached.
greatest_to : (p : ProgramDef) (most : ℕ) → ((c : ℕ) → Reaches p c → c ≤ most) → (b : ℕ) × IsGreatestReached p b
greatest_to p zero bound = (0, record { reached = zero_reached p; greatest = bound })
greatest_to p (suc most) bound = elim (reaches p (suc most)) [
  | inl there ↦ (suc most, record { reached = there; greatest = bound })
  | inr none ↦ greatest_to p most (λ c reach. elim (cases_lt c (suc most)) [
    | inl less ↦ omega arith
    | inr more ↦ let same : c ≡ suc most = omega (arith, bound c reach) in absurd (none (subst (λ (v : ℕ). Reaches p v) same reach))
  ])
]

-- If each column is covered, there is a greatest number that is reached.
pub greatest_exists : (p : ProgramDef) → ((c : ℕ) → c < columns p → IsCovered p c) → (b : ℕ) × IsGreatestReached p b
greatest_exists p covered =
    greatest_to p (dual_value p 1 (λ r. sum_below (columns p) (λ c. cost p c)))
    (λ c reach. dual_bounds p 1 (λ r. sum_below (columns p) (λ c. cost p c)) c (covered_dual p covered) reach)
