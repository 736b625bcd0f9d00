-- What is read off the last table: a point that meets every row, a dual that covers every column, and their equal values.
use Rattle.std.proofs.Common.{◌≡◌, ℕ, ◌*◌, ◌<◌, ◌≤◌, List, slice_index, ℤ, pos, ◌*ℤ◌, neg_ℤ, ◌≤ℤ◌, ◌<ℤ◌, unsigned_abs}
use Rattle.std.proofs.Common.{inl, inr, ap, ap₂, ◌∙◌, sym, subst, arith}
use Rattle.std.proofs.lemmas.Int.{ints, unsigned_abs-mul}
use Rattle.std.proofs.Math.Nat.{mul_comm, mul-le-mul_left, le_of_mul-le-mul_right, eq_of_mul-eq-mul_right}
use Rattle.number_laws.proofs.Ring.{mul-swap_last}
use Rattle.number_laws.proofs.Order.{cancel, weaker, not_negative}
use Rattle.number_laws.specs.Sums.{sum_below}
use Rattle.number_laws.specs.WholeSums.{total_below}
use Rattle.number_laws.proofs.SumLaws.{sum_below-agree, sum_below-times_right}
use Rattle.number_laws.proofs.TotalLaws.{total_below-agree, total_below-of_sum, only_at-here, only_at-away}
use Rattle.fraction128.specs.Fraction.{Fraction}
use Rattle.fraction128.specs.Scaling.{IsScaled, fraction_at}
use Rattle.fraction128.proofs.Unique.{size_positive}
use Rattle.program_form.specs.Program.{ProgramDef, columns, height, cost, entry, limit}
use Rattle.program_form.specs.Certificate.{DualDef}
use Rattle.program_form.specs.Points.{IsScaledPoint, worth}
use Rattle.program_form.specs.Optimum.{IsOptimum}
use Rattle.program_form.specs.Duals.{Covers, IsOptimalDual, dual_total}
use Rattle.program_form.proofs.Duality.{equal_values_optimum}
use Rattle.exchange_runs.specs.Table.{Table, variables, slack, objective}
use Rattle.exchange_runs.specs.Exchange.{IsLast}
use Rattle.exchange_runs.specs.Readings.{value_of, dual_at, IsValueOf, IsPrimal, IsWrittenDual}
use Rattle.exchange_runs.specs.Feasible.{IsOptimumValue, IsPointWorth}
use Rattle.exchange_runs.proofs.Signs.{turned, same_natural}
use Rattle.exchange_runs.proofs.Shown.{Shows, shows_minus, shows_at_most_zero, at_least_zero_shown}
use Rattle.exchange_runs.proofs.Ends.{end_covers, end_value, end_row, end_objective, at_variable, at_variable-nonneg}
use Rattle.exchange_runs.proofs.Ends.{at_variable-basic, at_variable-none}
use Rattle.exchange_runs.proofs.FirstTable.{first_z, has_slacks, number_at_column, number_at_cost, number_at_limit, number_at_value}
use Rattle.exchange_runs.proofs.Shadows.{IsShadow}

pub size_is : (x : ℤ) → pos 0 ≤ℤ x → pos (unsigned_abs x) ≡ x
size_is x h = omega (arith, ints)

at_most_natural : (a b : ℕ) → pos a ≤ℤ pos b → a ≤ b
at_most_natural a b h = omega (arith, ints)

-- A total of products of naturals.
total_of_products : (n : ℕ) (x y : ℕ → ℤ) (a b : ℕ → ℕ) → ((k : ℕ) → k < n → x k ≡ pos (a k)) → ((k : ℕ) → k < n → y k ≡ pos (b k))
    → total_below n (λ k. x k *ℤ y k) ≡ pos (sum_below n (λ k. a k * b k))
total_of_products n x y a b p q =
    total_below-agree n (λ k. x k *ℤ y k) (λ k. pos (a k * b k)) (λ k l. ap₂ ◌*ℤ◌ (p k l) (q k l)) ∙ total_below-of_sum n (λ k. a k * b k)

-- the denominator, the point and the dual of a table as naturals
abbrev pub scale_of : ℤ → ℕ
scale_of d = unsigned_abs d

abbrev pub value_z : ProgramDef → Table → (ℕ → ℕ → ℤ) → ℕ → ℤ
value_z p t z v = at_variable (height p) t.basic (λ i. z i (variables p)) v

abbrev pub point_of : ProgramDef → Table → (ℕ → ℕ → ℤ) → ℕ → ℕ
point_of p t z c = unsigned_abs (value_z p t z c)

abbrev pub dual_num : ProgramDef → (ℕ → ℕ → ℤ) → ℕ → ℕ
dual_num p z r = unsigned_abs (neg_ℤ (z (height p) (slack p r)))

-- The last table's objective numbers are not above zero.
none_above : (p : ProgramDef) (t : Table) (d : ℤ) (z : ℕ → ℕ → ℤ) (v : ℕ) → IsShadow p t d z → IsLast p t
    → v < variables p → z (height p) v ≤ℤ pos 0
none_above p t d z v h last l = shows_at_most_zero d (z (height p) v) (objective p t v) h.positive
    (h.shows (height p) v (omega arith)) (last.none v l)

value_size : (p : ProgramDef) (t : Table) (d : ℤ) (z : ℕ → ℕ → ℤ) (v : ℕ) → IsShadow p t d z → value_z p t z v ≡ pos (point_of p t z v)
value_size p t d z v h = sym (size_is _ (at_variable-nonneg (height p) t.basic (λ i. z i (variables p)) v h.limits))

dual_size : (p : ProgramDef) (t : Table) (d : ℤ) (z : ℕ → ℕ → ℤ) (r : ℕ) → IsShadow p t d z → IsLast p t → r < height p
    → neg_ℤ (z (height p) (slack p r)) ≡ pos (dual_num p z r)
dual_size p t d z r h last l = sym (size_is _ (turned (none_above p t d z (slack p r) h last (omega arith))))

-- The values of the columns are a point that meets every row. (This holds of every table of the run.)
pub is_point : (p : ProgramDef) (t : Table) (d : ℤ) (z : ℕ → ℕ → ℤ) → IsShadow p t d z → IsScaledPoint p (scale_of d) (point_of p t z)
is_point p t d z h = record {
  positive = size_positive d h.positive;
  kept = λ r l.
      let rows = end_row (height p) (columns p) (variables p) d (first_z p r) z t.basic (h.reads r l) h.basics
      (λ v. not_negative _) h.limits in
      let left : total_below (columns p) (λ c. first_z p r c *ℤ value_z p t z c)
      ≡ pos (sum_below (columns p) (λ c. entry p r c * point_of p t z c))
      = total_of_products (columns p) (first_z p r) (value_z p t z) (entry p r) (point_of p t z)
      (λ c k. ap pos (number_at_column p r c l k)) (λ c k. value_size p t d z c h) in
      let right : d *ℤ first_z p r (variables p) ≡ pos (scale_of d * limit p r)
      = ap₂ ◌*ℤ◌ (sym (size_is d (weaker h.positive))) (ap pos (number_at_limit p r l)) in
      at_most_natural _ _ (rw (← left, ← right) rows);
}

-- It is worth minus the objective's number at the limit.
pub worth_of : (p : ProgramDef) (t : Table) (d : ℤ) (z : ℕ → ℕ → ℤ) → IsShadow p t d z
    → pos (worth p (point_of p t z)) ≡ neg_ℤ (z (height p) (variables p))
worth_of p t d z h =
    sym (total_of_products (columns p) (first_z p (height p)) (value_z p t z) (cost p) (point_of p t z)
    (λ c k. ap pos (number_at_cost p c k)) (λ c k. value_size p t d z c h))
    ∙ end_objective (height p) (columns p) (variables p) d (first_z p (height p)) z t.basic h.reads_objective h.basics
    (ap pos (number_at_value p))
    (λ k l. has_slacks p (height p) k (omega arith) l ∙ only_at-away k (pos 1) (height p) (λ e. omega arith))

-- The duals cover every column.
pub covers_of : (p : ProgramDef) (t : Table) (d : ℤ) (z : ℕ → ℕ → ℤ) → IsShadow p t d z → IsLast p t → Covers p (scale_of d) (dual_num p z)
covers_of p t d z h last = record {
  positive = size_positive d h.positive;
  covered = λ c l.
      let cover = end_covers (height p) (columns p) (first_z p) d (z (height p)) c h.mixes_objective
      (none_above p t d z c h last (omega arith)) in
      let right : total_below (height p) (λ r. neg_ℤ (z (height p) (slack p r)) *ℤ first_z p r c)
      ≡ pos (sum_below (height p) (λ r. dual_num p z r * entry p r c))
      = total_of_products (height p) (λ r. neg_ℤ (z (height p) (slack p r))) (λ r. first_z p r c) (dual_num p z) (λ r. entry p r c)
      (λ r k. dual_size p t d z r h last k) (λ r k. ap pos (number_at_column p r c k l)) in
      let left : d *ℤ first_z p (height p) c ≡ pos (scale_of d * cost p c)
      = ap₂ ◌*ℤ◌ (sym (size_is d (weaker h.positive))) (ap pos (number_at_cost p c l)) in
      at_most_natural _ _ (rw (← left, ← right) cover);
}

-- Their total is minus the objective's number at the limit too.
pub dual_total_of : (p : ProgramDef) (t : Table) (d : ℤ) (z : ℕ → ℕ → ℤ) → IsShadow p t d z → IsLast p t
    → pos (dual_total p (dual_num p z)) ≡ neg_ℤ (z (height p) (variables p))
dual_total_of p t d z h last =
    sym (total_of_products (height p) (λ r. neg_ℤ (z (height p) (slack p r))) (λ r. first_z p r (variables p)) (dual_num p z) (limit p)
    (λ r k. dual_size p t d z r h last k) (λ r k. ap pos (number_at_limit p r k)))
    ∙ end_value (height p) (columns p) (first_z p) d (z (height p)) (variables p) h.mixes_objective (ap pos (number_at_value p))

pub optimum_of : (p : ProgramDef) (t : Table) (d : ℤ) (z : ℕ → ℕ → ℤ) → IsShadow p t d z → IsLast p t
    → IsOptimum p (dual_total p (dual_num p z)) (scale_of d)
optimum_of p t d z h last =
    equal_values_optimum p (scale_of d) (point_of p t z) (scale_of d) (dual_num p z) (is_point p t d z h) (covers_of p t d z h last)
    (let same : worth p (point_of p t z) ≡ dual_total p (dual_num p z) =
    same_natural _ _ (worth_of p t d z h ∙ sym (dual_total_of p t d z h last)) in
    rw same (mul_comm (dual_total p (dual_num p z)) (scale_of d)))

-- The same optimum in other terms.
pub optimum_at : (p : ProgramDef) (a b x y : ℕ) → 0 < y → a * y ≡ x * b → IsOptimum p a b → IsOptimum p x y
optimum_at p a b x y py same h =
    let at = h.attained in record {
      positive = py;
      attained = record {
        scale = at.scale;
        point = at.point;
        is_point = at.is_point;
        attained = attained_in b (worth p at.point) a at.scale x y h.positive same at.attained;
      };
      not_passed = λ s ys point. passed_in b (worth p ys) a s x y h.positive same (h.not_passed s ys point);
    }
  where
    attained_in : (e w c s n k : ℕ) → 0 < e → c * k ≡ n * e → w * e ≡ c * s → w * k ≡ n * s
    attained_in e w c s n k pe p q = eq_of_mul-eq-mul_right e pe (w * k) (n * s) (omega (arith, ap (λ m. m * s) p, ap (λ m. m * k) q))

    passed_in : (e w c s n k : ℕ) → 0 < e → c * k ≡ n * e → w * e ≤ c * s → w * k ≤ n * s
    passed_in e w c s n k pe p q = le_of_mul-le-mul_right {k = e} (omega (arith, ap (λ m. m * s) p, mul-le-mul_left k q)) pe

-- A number over a scale that is the value of a fraction, and the fraction's number.
pub scaled_shown : (d x : ℤ) (f : Fraction) (l k : ℕ) → Shows d x f → IsScaled l f k → pos k *ℤ d ≡ x *ℤ pos l
scaled_shown d x f l k h s =
    cancel (pos k *ℤ d) (x *ℤ pos l) f.den h.positive
    (mul-swap_last (pos k) d f.den ∙ (ap (λ a. a *ℤ d) s.same
    ∙ (mul-swap_last f.num (pos l) d ∙ (ap (λ a. a *ℤ pos l) h.same ∙ mul-swap_last x f.den (pos l)))))

pub shown_scaled : (d x : ℤ) (f : Fraction) (l k : ℕ) → pos 0 <ℤ d → Shows d x f → pos k *ℤ d ≡ x *ℤ pos l → IsScaled l f k
shown_scaled d x f l k pd h s = record {
  same = cancel (pos k *ℤ f.den) (f.num *ℤ pos l) d pd
      (mul-swap_last (pos k) f.den d ∙ (ap (λ a. a *ℤ f.den) s
      ∙ (mul-swap_last x (pos l) f.den ∙ (ap (λ a. a *ℤ pos l) (sym h.same) ∙ mul-swap_last f.num d (pos l)))));
}

-- The value of the last table.
pub value_shows : (p : ProgramDef) (t : Table) (d : ℤ) (z : ℕ → ℕ → ℤ) → IsShadow p t d z
    → Shows d (neg_ℤ (z (height p) (variables p))) (value_of p t)
value_shows p t d z h = shows_minus d (z (height p) (variables p)) (objective p t (variables p))
    (h.shows (height p) (variables p) (omega arith))

dual_shows : (p : ProgramDef) (t : Table) (d : ℤ) (z : ℕ → ℕ → ℤ) (r : ℕ) → IsShadow p t d z
    → Shows d (neg_ℤ (z (height p) (slack p r))) (dual_at p t r)
dual_shows p t d z r h = shows_minus d (z (height p) (slack p r)) (objective p t (slack p r)) (h.shows (height p) (slack p r) (omega arith))

not_below_zero : (n : ℕ) (x : ℤ) → pos n ≡ x → pos 0 ≤ℤ x
not_below_zero n x h = omega (arith, ints)

pub optimum_value : (p : ProgramDef) (t : Table) (d : ℤ) (z : ℕ → ℕ → ℤ) → IsShadow p t d z → IsLast p t → IsOptimumValue p (value_of p t)
optimum_value p t d z h last =
    let f : Fraction = value_of p t in
    let shown : Shows d (neg_ℤ (z (height p) (variables p))) f = value_shows p t d z h in
    let total : ℕ = dual_total p (dual_num p z) in
    let total_is : pos total ≡ neg_ℤ (z (height p) (variables p)) = dual_total_of p t d z h last in
    let above : pos 0 ≤ℤ f.num = at_least_zero_shown d _ f h.positive shown (not_below_zero total _ total_is) in
    let same : f.num *ℤ d ≡ pos total *ℤ f.den = shown.same ∙ ap (λ a. a *ℤ f.den) (sym total_is) in
    let sizes : unsigned_abs f.num * scale_of d ≡ total * unsigned_abs f.den =
    sym (unsigned_abs-mul f.num d) ∙ (ap unsigned_abs same ∙ unsigned_abs-mul (pos total) f.den) in
    record {
      not_below = above;
      positive = shown.positive;
      optimum = optimum_at p total (scale_of d) (unsigned_abs f.num) (unsigned_abs f.den)
          (size_positive f.den shown.positive) (sym sizes) (optimum_of p t d z h last);
    }

-- No variable is basic in two rows.
pub basics_apart : (p : ProgramDef) (t : Table) (d : ℤ) (z : ℕ → ℕ → ℤ) (i j : ℕ) → IsShadow p t d z → i < height p
    → j < height p → (j ≡ i → ⊥) → t.basic j ≡ t.basic i → ⊥
basics_apart p t d z i j h li lj away same =
    clash d (z j (t.basic j)) (h.unit j j lj lj ∙ only_at-here j d)
    (ap (z j) same ∙ (h.unit j i lj li ∙ only_at-away i d j away)) h.positive
  where
    clash : (a b : ℤ) → b ≡ a → b ≡ pos 0 → pos 0 <ℤ a → ⊥
    clash a b p q r = omega (arith, ints)

-- The value of a column is its number over d.
pub column_shows : (p : ProgramDef) (t : Table) (d : ℤ) (z : ℕ → ℕ → ℤ) (v : ℕ) (f : Fraction) → IsShadow p t d z
    → IsValueOf (variables p) t (height p) v f
    → Shows d (value_z p t z v) f
column_shows p t d z v f h is = elim is [
  | inl here ↦
      let at : value_z p t z v ≡ z here.0 (variables p)
      = ap (value_z p t z) (sym here.2) ∙ at_variable-basic (height p) t.basic (λ i. z i (variables p)) here.0 here.1
      (λ j l away same. basics_apart p t d z here.0 j h here.1 l away same) in
      rw (at, here.3) (h.shows here.0 (variables p) (omega (arith, here.1)))
  | inr none ↦ rw (at_variable-none (height p) t.basic (λ i. z i (variables p)) v none.0, none.1)
      (record { same = zero_over d; positive = omega (arith, ints) })
]
  where
    zero_over : (a : ℤ) → pos 0 *ℤ a ≡ pos 0 *ℤ pos 1
    zero_over a = omega (arith, ints)

-- The primal is a point that meets every row and is worth the value.
pub primal_is_point : (p : ProgramDef) (t : Table) (d : ℤ) (z : ℕ → ℕ → ℤ) (primal : List Fraction) → IsShadow p t d z → IsPrimal p t primal
    → IsPointWorth p primal (value_of p t)
primal_is_point p t d z primal h is = record {
  value_each = is.value_each;
  scale = scale_of d;
  point = point_of p t z;
  is_point = is_point p t d z h;
  columns_are = λ c l.
      shown_scaled d (value_z p t z c) (fraction_at primal c) (scale_of d) (point_of p t z c) h.positive
      (column_shows p t d z c (fraction_at primal c) h (is.values c l))
      (ap₂ ◌*ℤ◌ (sym (value_size p t d z c h)) (sym (size_is d (weaker h.positive))));
  worth_is = shown_scaled d (neg_ℤ (z (height p) (variables p))) (value_of p t) (scale_of d) (worth p (point_of p t z))
      h.positive (value_shows p t d z h)
      (ap₂ ◌*ℤ◌ (worth_of p t d z h) (sym (size_is d (weaker h.positive))));
}

-- Totals of multipliers over another denominator.
scaled_sums : (m e k : ℕ) (x y by : ℕ → ℕ) → ((r : ℕ) → r < m → y r * e ≡ x r * k)
    → sum_below m (λ r. y r * by r) * e ≡ sum_below m (λ r. x r * by r) * k
scaled_sums m e k x y by agree =
    sym (sum_below-times_right m e (λ r. y r * by r))
    ∙ (sum_below-agree m (λ r. y r * by r * e) (λ r. x r * by r * k)
    (λ r i. swap (y r) (by r) e ∙ (ap (λ a. a * by r) (agree r i) ∙ swap (x r) k (by r)))
    ∙ sum_below-times_right m k (λ r. x r * by r))
  where
    swap : (a b c : ℕ) → a * b * c ≡ a * c * b
    swap a b c = omega arith

-- The duals over another common denominator l cover every column too.
pub scaled_covers : (p : ProgramDef) (d l : ℕ) (num other : ℕ → ℕ) → 0 < l
    → ((r : ℕ) → r < height p → other r * d ≡ num r * l) → Covers p d num → Covers p l other
scaled_covers p d l num other pl same h = record {
  positive = pl;
  covered = λ c k.
      let sums : sum_below (height p) (λ r. other r * entry p r c) * d ≡ sum_below (height p) (λ r. num r * entry p r c) * l
      = scaled_sums (height p) d l num other (λ r. entry p r c) same in
      le_of_mul-le-mul_right {k = d} (omega (arith, sums, mul-le-mul_left l (h.covered c k), group l (cost p c) d)) h.positive;
}
  where
    group : (a b c : ℕ) → a * b * c ≡ a * (c * b)
    group a b c = omega arith

-- and their total over l is the same value
pub scaled_total : (p : ProgramDef) (d l : ℕ) (num other : ℕ → ℕ) → ((r : ℕ) → r < height p → other r * d ≡ num r * l)
    → dual_total p other * d ≡ dual_total p num * l
scaled_total p d l num other same = scaled_sums (height p) d l num other (limit p) same

-- A number of the written dual and that of its row.
written_number : (p : ProgramDef) (t : Table) (d : ℤ) (z : ℕ → ℕ → ℤ) (w : DualDef) (r : ℕ) → IsShadow p t d z
    → IsLast p t → IsWrittenDual p t w → r < height p
    → slice_index w.num r * scale_of d ≡ dual_num p z r * w.den
written_number p t d z w r h last is l =
    let scaled : IsScaled w.den (dual_at p t r) (slice_index w.num r)
    = subst (λ (f : Fraction). IsScaled w.den f (slice_index w.num r)) (is.are_duals.duals_are r l)
    (is.scaled.each r (rw is.are_duals.dual_each l)) in
    let shown : pos (slice_index w.num r) *ℤ d ≡ neg_ℤ (z (height p) (slack p r)) *ℤ pos w.den
    = scaled_shown d (neg_ℤ (z (height p) (slack p r))) (dual_at p t r) w.den (slice_index w.num r) (dual_shows p t d z r h) scaled in
    same_natural _ _
    (ap (λ a. pos (slice_index w.num r) *ℤ a) (size_is d (weaker h.positive))
    ∙ (shown ∙ ap (λ a. a *ℤ pos w.den) (dual_size p t d z r h last l)))

-- The written dual is feasible and optimal.
pub dual_is_optimal : (p : ProgramDef) (t : Table) (d : ℤ) (z : ℕ → ℕ → ℤ) (w : DualDef) → IsShadow p t d z → IsLast p t
    → IsWrittenDual p t w → IsOptimalDual p w
dual_is_optimal p t d z w h last is = record {
  feasible = record {
    number_each = is.scaled.len ∙ is.are_duals.dual_each;
    covers = scaled_covers p (scale_of d) w.den (dual_num p z) (λ r. slice_index w.num r) is.least.positive
        (λ r l. written_number p t d z w r h last is l) (covers_of p t d z h last);
  };
  optimum = optimum_at p (dual_total p (dual_num p z)) (scale_of d) (dual_total p (λ r. slice_index w.num r)) w.den is.least.positive
      (sym (scaled_total p (scale_of d) w.den (dual_num p z) (λ r. slice_index w.num r) (λ r l. written_number p t d z w r h last is l)))
      (optimum_of p t d z h last);
}

-- Its total over its denominator is the value.
pub dual_worth : (p : ProgramDef) (t : Table) (d : ℤ) (z : ℕ → ℕ → ℤ) (w : DualDef) → IsShadow p t d z → IsLast p t → IsWrittenDual p t w
    → IsScaled w.den (value_of p t) (dual_total p (λ r. slice_index w.num r))
dual_worth p t d z w h last is =
    let total : ℕ = dual_total p (λ r. slice_index w.num r) in
    let sums : total * scale_of d ≡ dual_total p (dual_num p z) * w.den
    = scaled_total p (scale_of d) w.den (dual_num p z) (λ r. slice_index w.num r) (λ r l. written_number p t d z w r h last is l) in
    shown_scaled d (neg_ℤ (z (height p) (variables p))) (value_of p t) w.den total h.positive (value_shows p t d z h)
    (ap (λ a. pos total *ℤ a) (sym (size_is d (weaker h.positive)))
    ∙ (ap pos sums ∙ ap (λ a. a *ℤ pos w.den) (dual_total_of p t d z h last)))
