-- The best point of a run, and what it means for the program once it is written over its least common denominator.
use Rattle.std.proofs.Common.{◌≡◌, inl, inr, ℕ, ◌*◌, ◌<◌, ◌≤◌, List, length, slice_index, ℤ, pos, ◌*ℤ◌, ◌≤ℤ◌, ◌<ℤ◌, unsigned_abs}
use Rattle.std.proofs.Common.{refl, sym, ap, subst, ◌∙◌, arith}
use Rattle.std.specs.Prelude.{All}
use Rattle.std.proofs.Math.Nat.{mul-le-mul_left, le_of_mul-le-mul_right, mul_assoc}
use Rattle.std.proofs.lemmas.Int.{ints, unsigned_abs-mul}
use Rattle.std.proofs.lemmas.List.{get_or_default}
use Rattle.std.proofs.lemmas.Grind.{same_number_lists}
use Rattle.number_laws.proofs.Order.{times_nonneg, cancel_le, weaker, above_zero, not_negative}
use Rattle.number_laws.specs.Sums.{sum_below}
use Rattle.number_laws.proofs.SumLaws.{sum_below-agree, sum_below-times_right}
use Rattle.fraction128.specs.Fraction.{Fraction, IsForm, whole}
use Rattle.fraction128.specs.Scaling.{IsScaled, AreScaled, fraction_at}
use Rattle.fraction128.proofs.Forms.{form_of_zero}
use Rattle.fraction128.proofs.ScalingLemmas.{one_least, none_serves}
use Rattle.program_form.specs.Certificate.{DualDef}
use Rattle.program_form.specs.Optimum.{IsOptimum}
use Rattle.program_form.specs.Points.{IsScaledPoint, IsGreatestReached, worth}
use Rattle.program_form.specs.Program.{ProgramDef, IsProgram, columns, cost, entry, limit}
use Rattle.program_form.proofs.Duality.{not_passed_bounds}
use Rattle.exchange_runs.specs.Feasible.{IsOptimumValue, IsPointWorth}
use Rattle.exchange_runs.specs.Outcomes.{EndsWithin}
use Rattle.exchange_runs.specs.Readings.{IsPrimal}
use Rattle.exchange_runs.specs.Table.{variables}
use Rattle.exchange_runs.proofs.Best.{optimum_at, scaled_shown, shown_scaled}
use Rattle.exchange_runs.proofs.Finals.{ends_at_optimum, ends_at_point, one_number}
use Rattle.exchange_runs.proofs.Once.{forms}
use Rattle.exchange_runs.proofs.Shown.{Shows}
use Rattle.exchange_runs.proofs.Signs.{same_natural}
use Rattle.refusal_laws.specs.Steps.{whole_worth}
use Rattle.refusal_cert.specs.Refuting.{IsWritten, IsUnwritable}

-- Each number of the best point is a fraction in lowest terms.
best_form : (p : ProgramDef) (units k : ℕ) (value : Fraction) (best : List Fraction) (d : DualDef) → IsProgram p
    → EndsWithin p units k value best d → (c : ℕ) → c < length best → IsForm (fraction_at best c)
best_form p units k value best d is ends c here =
    let primal : IsPrimal p ends.table best = ends.read_off.is_primal in
    elim (primal.values c (rw (← primal.value_each) here)) [
      | inl row ↦ subst (λ (f : Fraction). IsForm f) (sym row.3)
          (forms p k ends.table is ends.run.reached row.0 (variables p) (omega (arith, row.1)))
      | inr none ↦ subst (λ (f : Fraction). IsForm f) (sym none.1) form_of_zero
    ]

pub best_forms : (p : ProgramDef) (units k : ℕ) (value : Fraction) (best : List Fraction) (d : DualDef) → IsProgram p
    → EndsWithin p units k value best d → All IsForm best
best_forms p units k value best d is ends = λ c x here.
    subst (λ (f : Fraction). IsForm f) (sym (get_or_default best c x (whole (pos 0)) here))
    (best_form p units k value best d is ends c here)

-- A number over a scale above zero isn't below zero.
not_below : (s y : ℕ) (f : Fraction) → 0 < s → pos 0 <ℤ f.den → IsScaled s f y → pos 0 ≤ℤ f.num
not_below s y f above positive scaled =
    let product : pos 0 ≤ℤ (pos y *ℤ f.den) = times_nonneg (pos y) f.den (not_negative y) (weaker positive) in
    let there : pos 0 ≤ℤ (f.num *ℤ pos s) = subst (λ (z : ℤ). pos 0 ≤ℤ z) scaled.same product in
    cancel_le (pos 0) f.num (pos s) (above_zero s above) (from_zero s (f.num *ℤ pos s) there)
  where
    from_zero : (n : ℕ) (z : ℤ) → pos 0 ≤ℤ z → (pos 0 *ℤ pos n) ≤ℤ z
    from_zero n z h = omega (arith, ints)

pub best_not_below : (p : ProgramDef) (units k : ℕ) (value : Fraction) (best : List Fraction) (d : DualDef) → IsProgram p
    → EndsWithin p units k value best d → All (λ f. pos 0 ≤ℤ f.num) best
best_not_below p units k value best d is ends = λ c x here.
    let at : IsPointWorth p best value = ends_at_point p units k value best d ends in
    let within : c < columns p = rw (← at.value_each) here in
    let positive = (best_form p units k value best d is ends c here).positive in
    subst (λ (f : Fraction). pos 0 ≤ℤ f.num) (sym (get_or_default best c x (whole (pos 0)) here))
    (not_below at.scale (at.point c) (fraction_at best c) at.is_point.positive positive (at.columns_are c within))

shows : (s a : ℕ) (f : Fraction) → pos 0 <ℤ f.den → IsScaled s f a → Shows (pos s) (pos a) f
shows s a f positive scaled = record { same = sym scaled.same; positive = positive }

-- Two numbers over two scales that are the same fraction.
cross_scaled : (f : Fraction) (s d a b : ℕ) → pos 0 <ℤ f.den → IsScaled s f a → IsScaled d f b → b * s ≡ a * d
cross_scaled f s d a b positive one two =
    same_natural (b * s) (a * d) (scaled_shown (pos s) (pos a) f d b (shows s a f positive one) two)

rescaled : (f : Fraction) (s d a b : ℕ) → 0 < s → pos 0 <ℤ f.den → IsScaled s f a → b * s ≡ a * d → IsScaled d f b
rescaled f s d a b above positive one same =
    shown_scaled (pos s) (pos a) f d b (above_zero s above) (shows s a f positive one) (ap pos same)

-- Sums over another scale.
scaled_sums : (n s d : ℕ) (a ys zs : ℕ → ℕ) → ((c : ℕ) → c < n → zs c * s ≡ ys c * d)
    → sum_below n (λ c. a c * zs c) * s ≡ sum_below n (λ c. a c * ys c) * d
scaled_sums n s d a ys zs same =
    sym (sum_below-times_right n s (λ c. a c * zs c))
    ∙ (sum_below-agree n (λ c. a c * zs c * s) (λ c. a c * ys c * d)
    (λ c l. mul_assoc (a c) (zs c) s ∙ (ap (λ m. a c * m) (same c l) ∙ sym (mul_assoc (a c) (ys c) d)))
    ∙ sum_below-times_right n d (λ c. a c * ys c))

-- A point over another scale meets the same rows.
point_over : (p : ProgramDef) (s d : ℕ) (ys zs : ℕ → ℕ) → 0 < d → IsScaledPoint p s ys
    → ((c : ℕ) → c < columns p → zs c * s ≡ ys c * d) → IsScaledPoint p d zs
point_over p s d ys zs positive point same = record {
  positive = positive;
  kept = λ r l. kept_over (sum_below (columns p) (λ c. entry p r c * zs c)) (sum_below (columns p) (λ c. entry p r c * ys c))
      s d (limit p r) point.positive (scaled_sums (columns p) s d (entry p r) ys zs same) (point.kept r l);
}
  where
    kept_over : (x y s d m : ℕ) → 0 < s → x * s ≡ y * d → y ≤ s * m → x ≤ d * m
    kept_over x y s d m above sums kept =
        le_of_mul-le-mul_right {k = s} (omega (arith, sums, mul-le-mul_left d kept)) above

sizes_of : (f : Fraction) (l k : ℕ) → IsScaled l f k → unsigned_abs f.num * l ≡ k * unsigned_abs f.den
sizes_of f l k h = sym (sym (unsigned_abs-mul (pos k) f.den) ∙ (ap unsigned_abs h.same ∙ unsigned_abs-mul f.num (pos l)))

-- What the written best point means for the program: it meets each row, and its whole worth is at least b.
pub record IsBestPoint (p : ProgramDef) (point : DualDef) (b : ℕ) : Type 0 where
  pub size : length point.num ≡ columns p
  pub rows : IsScaledPoint p point.den (slice_index point.num)
  pub whole : b ≤ whole_worth p point

pub best_point : (p : ProgramDef) (units k : ℕ) (value : Fraction) (best : List Fraction) (d point : DualDef) (b : ℕ) → IsProgram p
    → EndsWithin p units k value best d → IsWritten best point → IsGreatestReached p b → IsBestPoint p point b
best_point p units k value best d point b is ends written greatest =
    let at : IsPointWorth p best value = ends_at_point p units k value best d ends in
    let num : ℕ → ℕ = slice_index point.num in
    let same : (c : ℕ) → c < columns p → num c * at.scale ≡ at.point c * point.den = λ c l.
    let within : c < length best = rw at.value_each l in
    cross_scaled (fraction_at best c) at.scale point.den (at.point c) (num c) (best_form p units k value best d is ends c within).positive
    (at.columns_are c l) (written.scaled.each c within) in
    let positive : 0 < point.den = written.least.positive in
    let sums : worth p num * at.scale ≡ worth p at.point * point.den =
    scaled_sums (columns p) at.scale point.den (cost p) at.point num same in
    let optimum : IsOptimumValue p value = ends_at_optimum p units k value best d ends in
    let over : IsScaled point.den value (worth p num) =
    rescaled value at.scale point.den (worth p at.point) (worth p num) at.is_point.positive optimum.positive at.worth_is sums in
    let best_at : IsOptimum p (worth p num) point.den =
    optimum_at p (unsigned_abs value.num) (unsigned_abs value.den) (worth p num) point.den positive
    (sizes_of value point.den (worth p num) over)
    optimum.optimum in
    record {
      size = written.scaled.len ∙ at.value_each;
      rows = point_over p at.scale point.den at.point num positive at.is_point same;
      whole = not_passed_bounds p (worth p num) point.den b positive best_at.not_passed greatest.reached;
    }

-- A best point is written in one way.
form_at : (best : List Fraction) → All IsForm best → (c : ℕ) → c < length best → IsForm (fraction_at best c)
form_at best all c here = all c (whole (pos 0)) here

pub one_written : (best : List Fraction) (x y : DualDef) → All IsForm best → IsWritten best x → IsWritten best y → x ≡ y
one_written best x y all h k =
    let dens : x.den ≡ y.den = one_least best x.den y.den h.least k.least in
    let moved : AreScaled x.den best y.num = subst (λ (l : ℕ). AreScaled l best y.num) (sym dens) k.scaled in
    let nums : x.num ≡ y.num = same_number_lists x.num y.num (h.scaled.len ∙ sym moved.len) (λ c below.
    let within : c < length best = rw (← h.scaled.len) below in
    one_number x.den (slice_index x.num c) (slice_index y.num c) (fraction_at best c) (form_at best all c within).positive
    (h.scaled.each c within) (moved.each c within)) in
    dual_is x.den y.den x.num y.num dens nums
  where
    dual_is : (m n : ℕ) (ks js : List ℕ) → m ≡ n → ks ≡ js
        → (let a : DualDef = record { den = m; num = ks } in a) ≡ record { den = n; num = js }
    dual_is m n ks js p q = rw (p, q) refl

-- A best point that can be written isn't too wide to be written.
pub written_or_not : (best : List Fraction) (x : DualDef) → All IsForm best → IsWritten best x → IsUnwritable best → ⊥
written_or_not best x all h wide = none_serves best wide.common all wide.least wide.wide x.den (record {
  positive = h.least.positive;
  small = h.small_den;
  common = h.least.common;
  each = λ c l. (slice_index x.num c, h.scaled.each c l, h.small_num c 0 (rw h.scaled.len l));
})
