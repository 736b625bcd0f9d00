-- What is read off the end of a run over unbounded fractions: the greatest whole value, a point that reaches it, and a dual that covers.
use Rattle.std.proofs.Common.{◌≡◌, ℕ, ◌*◌, ◌/◌, ◌%◌, ◌<◌, ◌≤◌, List, slice_index, ℤ, pos, neg_ℤ, ◌*ℤ◌, ◌≤ℤ◌, ◌<ℤ◌, unsigned_abs}
use Rattle.std.proofs.Common.{refl, sym, ap, ap₂, ◌∙◌, subst, arith}
use Rattle.std.proofs.Math.Nat.{mul_assoc, mul_right_comm, mul-le-mul_left, mul-le-mul_right, le_of_mul-le-mul_right, mod-lt}
use Rattle.std.proofs.lemmas.Nat.{div-add-mod'}
use Rattle.std.proofs.lemmas.Int.{ints, unsigned_abs-mul}
use Rattle.number_laws.proofs.Order.{weaker, above_zero}
use Rattle.number_laws.specs.Sums.{sum_below}
use Rattle.number_laws.proofs.SumLaws.{sum_below-monotone, sum_below-times_right}
use Rattle.fraction128.specs.Fraction.{Fraction, IsFloor, over, whole}
use Rattle.fraction128.proofs.Unique.{size_positive}
use Rattle.program_form.specs.Program.{ProgramDef, columns, height, cost, entry, limit}
use Rattle.program_form.specs.Certificate.{DualDef}
use Rattle.program_form.specs.Points.{IsScaledPoint, IsGreatestReached, worth}
use Rattle.program_form.specs.Duals.{Covers, IsFeasibleDual}
use Rattle.program_form.proofs.Duality.{optimum_reached, one_greatest}
use Rattle.exchange_runs.specs.Table.{Table, variables, slack, objective}
use Rattle.exchange_runs.specs.Exchange.{IsLast}
use Rattle.exchange_runs.specs.Readings.{value_of, dual_at}
use Rattle.exchange_runs.specs.Feasible.{IsOptimumValue}
use Rattle.exchange_runs.specs.Unbounded.{IsFraction}
use Rattle.exchange_runs.proofs.Signs.{turned}
use Rattle.exchange_runs.proofs.Shown.{Shows, shows_whole, shows_minus, shows_at_most, shows_at_most_zero}
use Rattle.exchange_runs.proofs.Shadows.{IsShadow, shadow_over}
use Rattle.exchange_runs.proofs.FreeRuns.{are_fractions}
use Rattle.exchange_runs.proofs.FreeEnds.{free_end_is_best}
use Rattle.exchange_runs.proofs.Best.{size_is, scale_of, value_z, point_of, dual_num, is_point, worth_of, covers_of}
use Rattle.exchange_runs.proofs.Best.{scaled_shown, column_shows, value_shows}
use Rattle.free_search.specs.Ends.{IsEndAfter, IsPointOf, IsRoundedUp, IsRoundedDual}
use Rattle.free_search.proofs.Ends.{floor_of}

-- A fraction that isn't below zero has a whole part, and one only.
floor_at : (f : Fraction) → pos 0 ≤ℤ f.num → pos 0 <ℤ f.den → IsFloor f (pos (unsigned_abs f.num / unsigned_abs f.den))
floor_at f not_below positive =
    let a : ℕ = unsigned_abs f.num in
    let b : ℕ = unsigned_abs f.den in
    subst (λ (g : Fraction). IsFloor g (pos (a / b))) (ap₂ over (size_is f.num not_below) (size_is f.den (weaker positive)))
    (floor_of a b (a / b) (a % b) (div-add-mod' a b) (mod-lt a (size_positive f.den positive)))

one_floor : (f : Fraction) (m n : ℕ) → IsFloor f (pos m) → IsFloor f (pos n) → m ≡ n
one_floor f m n h k =
    let up : pos m ≤ℤ pos n = k.greatest (pos m) h.within in
    let back : pos n ≤ℤ pos m = h.greatest (pos n) k.within in
    omega (arith, ints, up, back)

pub value_has_floor : (p : ProgramDef) (k : ℕ) (t : Table) → IsEndAfter p k t → (n : ℕ) × IsFloor (value_of p t) (pos n)
value_has_floor p k t end =
    let f : Fraction = value_of p t in
    let best : IsOptimumValue p f = free_end_is_best p k t end.reached end.last in
    (unsigned_abs f.num / unsigned_abs f.den, floor_at f best.not_below best.positive)

-- The whole part of the value is the greatest whole number that is reached.
pub floor_is_greatest : (p : ProgramDef) (k : ℕ) (t : Table) (n : ℕ) → IsEndAfter p k t → IsFloor (value_of p t) (pos n)
    → IsGreatestReached p n
floor_is_greatest p k t n end floor =
    let f : Fraction = value_of p t in
    let best : IsOptimumValue p f = free_end_is_best p k t end.reached end.last in
    let num : ℕ = unsigned_abs f.num in
    let den : ℕ = unsigned_abs f.den in
    subst (IsGreatestReached p) (one_floor f (num / den) n (floor_at f best.not_below best.positive) floor)
    (optimum_reached p num den best.optimum)

-- So each end has the same one.
pub floor_is_one : (p : ProgramDef) (k j : ℕ) (t u : Table) (m n : ℕ) → IsEndAfter p k t → IsEndAfter p j u
    → IsFloor (value_of p t) (pos m) → IsFloor (value_of p u) (pos n) → m ≡ n
floor_is_one p k j t u m n end other floor below =
    one_greatest p m n (floor_is_greatest p k t m end floor) (floor_is_greatest p j u n other below)

numbers_behind : (p : ProgramDef) (k : ℕ) (t : Table) → IsEndAfter p k t → (d : ℤ) × (z : ℕ → ℕ → ℤ) × IsShadow p t d z
numbers_behind p k t end = shadow_over IsFraction p k t are_fractions end.reached

-- A sum over d is at most one over s if each term is.
sums_at_most : (n d s : ℕ) (x y : ℕ → ℕ) → ((c : ℕ) → c < n → x c * s ≤ y c * d) → sum_below n x * s ≤ sum_below n y * d
sums_at_most n d s x y h =
    rw (← sum_below-times_right n s x, ← sum_below-times_right n d y) (sum_below-monotone n (λ c. x c * s) (λ c. y c * d) h)

-- The same with a factor in each term, on either side.
left_sums_at_most : (n d s : ℕ) (by x y : ℕ → ℕ) → ((c : ℕ) → c < n → x c * s ≤ y c * d)
    → sum_below n (λ c. by c * x c) * s ≤ sum_below n (λ c. by c * y c) * d
left_sums_at_most n d s by x y h =
    sums_at_most n d s (λ c. by c * x c) (λ c. by c * y c)
    (λ c l. rw (mul_assoc (by c) (x c) s, mul_assoc (by c) (y c) d) (mul-le-mul_left (by c) (h c l)))

right_sums_at_most : (n d s : ℕ) (x y by : ℕ → ℕ) → ((c : ℕ) → c < n → x c * s ≤ y c * d)
    → sum_below n (λ c. x c * by c) * s ≤ sum_below n (λ c. y c * by c) * d
right_sums_at_most n d s x y by h =
    sums_at_most n d s (λ c. x c * by c) (λ c. y c * by c)
    (λ c l. rw (mul_right_comm (x c) (by c) s, mul_right_comm (y c) (by c) d) (mul-le-mul_right (by c) (h c l)))

-- A point that isn't above another, over another scale, meets the same rows.
point_below : (p : ProgramDef) (s d : ℕ) (ys zs : ℕ → ℕ) → 0 < d → IsScaledPoint p s ys
    → ((c : ℕ) → c < columns p → zs c * s ≤ ys c * d) → IsScaledPoint p d zs
point_below p s d ys zs positive point below = record {
  positive = positive;
  kept = λ r l. kept_over (sum_below (columns p) (λ c. entry p r c * zs c)) (sum_below (columns p) (λ c. entry p r c * ys c))
      s d (limit p r) point.positive (left_sums_at_most (columns p) d s (entry p r) zs ys below) (point.kept r l);
}
  where
    kept_over : (x y s d m : ℕ) → 0 < s → x * s ≤ y * d → y ≤ s * m → x ≤ d * m
    kept_over x y s d m above sums kept =
        le_of_mul-le-mul_right {k = s} (omega (arith, sums, mul-le-mul_left d kept)) above

-- The number of a column over a denominator is its number behind the table.
column_same : (p : ProgramDef) (t : Table) (d : ℤ) (z : ℕ → ℕ → ℤ) (den : ℕ) (num : List ℕ) (c : ℕ) → IsShadow p t d z
    → IsPointOf p t den num → c < columns p → slice_index num c * scale_of d ≡ point_of p t z c * den
column_same p t d z den num c h point l =
    let value = point.values c l in
    let same : pos (slice_index num c) *ℤ d ≡ value_z p t z c *ℤ pos den
    = scaled_shown d (value_z p t z c) value.0 den (slice_index num c) (column_shows p t d z c value.0 h value.1) value.2 in
    sym (unsigned_abs-mul (pos (slice_index num c)) d) ∙ (ap unsigned_abs same ∙ unsigned_abs-mul (value_z p t z c) (pos den))

-- naturals that are at most each other as whole numbers
natural_at_most : (a b : ℕ) (x y : ℤ) → pos a ≡ x → pos b ≡ y → x ≤ℤ y → a ≤ b
natural_at_most a b x y p q h = omega (arith, ints)

-- The point behind the table reaches the whole part of the value.
floor_reached : (p : ProgramDef) (t : Table) (d : ℤ) (z : ℕ → ℕ → ℤ) (n : ℕ) → IsShadow p t d z → IsFloor (value_of p t) (pos n)
    → n * scale_of d ≤ worth p (point_of p t z)
floor_reached p t d z n h floor =
    let value : ℤ = neg_ℤ (z (height p) (variables p)) in
    let points : ℕ = worth p (point_of p t z) in
    let at_most : n * scale_of d ≤ points * 1
    = natural_at_most (n * scale_of d) (points * 1) (pos n *ℤ d) (value *ℤ pos 1)
    (ap (λ a. pos n *ℤ a) (size_is d (weaker h.positive))) (ap (λ a. a *ℤ pos 1) (worth_of p t d z h))
    (shows_at_most (pos 1) (pos n) d value (whole (pos n)) (value_of p t) (above_zero 1 (omega arith)) h.positive (shows_whole (pos n))
    (value_shows p t d z h) floor.within) in
    omega (arith, at_most)

-- The point of the end meets every row, and reaches the whole part of the value.
pub point_is_best : (p : ProgramDef) (k : ℕ) (t : Table) (den : ℕ) (num : List ℕ) (n : ℕ) → IsEndAfter p k t → IsPointOf p t den num
    → IsFloor (value_of p t) (pos n) → IsScaledPoint p den (slice_index num) × (n * den ≤ worth p (slice_index num))
point_is_best p k t den num n end point floor =
    let behind : (d : ℤ) × (z : ℕ → ℕ → ℤ) × IsShadow p t d z = numbers_behind p k t end in
    let s : ℕ = scale_of behind.0 in
    let ys : ℕ → ℕ = point_of p t behind.1 in
    let at : IsScaledPoint p s ys = is_point p t behind.0 behind.1 behind.2 in
    let same : (c : ℕ) → c < columns p → slice_index num c * s ≡ ys c * den
    = λ c l. column_same p t behind.0 behind.1 den num c behind.2 point l in (
      point_below p s den ys (slice_index num) point.positive at (λ c l. omega (arith, same c l)),
      reached_over n s den (worth p ys) (worth p (slice_index num)) at.positive
          (left_sums_at_most (columns p) s den (cost p) ys (slice_index num) (λ c l. omega (arith, same c l)))
          (floor_reached p t behind.0 behind.1 n behind.2 floor),
    )
  where
    reached_over : (n s d x y : ℕ) → 0 < s → x * d ≤ y * s → n * s ≤ x → n * d ≤ y
    reached_over n s d x y above sums reached =
        le_of_mul-le-mul_right {k = s} (omega (arith, sums, mul-le-mul_left d reached)) above

-- A multiplier that is rounded up isn't below the number behind the table.
multiplier_not_below : (p : ProgramDef) (t : Table) (d : ℤ) (z : ℕ → ℕ → ℤ) (r m k : ℕ) → IsShadow p t d z → IsLast p t → r < height p
    → 0 < m → IsRoundedUp (dual_at p t r) m k → dual_num p z r * m ≤ k * scale_of d
multiplier_not_below p t d z r m k h last l positive up =
    let cell : ℤ = z (height p) (slack p r) in
    let shown : Shows d cell (objective p t (slack p r)) = h.shows (height p) (slack p r) (omega arith) in
    let below : cell ≤ℤ pos 0 =
    shows_at_most_zero d cell (objective p t (slack p r)) h.positive shown (last.none (slack p r) (omega arith)) in
    natural_at_most (dual_num p z r * m) (k * scale_of d) (neg_ℤ cell *ℤ pos m) (pos k *ℤ d)
    (ap (λ a. a *ℤ pos m) (size_is (neg_ℤ cell) (turned below))) (ap (λ a. pos k *ℤ a) (size_is d (weaker h.positive)))
    (shows_at_most d (neg_ℤ cell) (pos m) (pos k) (dual_at p t r) (over (pos k) (pos m)) h.positive (above_zero m positive)
    (shows_minus d cell (objective p t (slack p r)) shown) (record { same = refl; positive = above_zero m positive })
    (record { le = up.not_below }))

-- Multipliers that aren't below those of another dual, over another denominator, cover the same columns.
covers_above : (p : ProgramDef) (s d : ℕ) (num other : ℕ → ℕ) → 0 < d → Covers p s num
    → ((r : ℕ) → r < height p → num r * d ≤ other r * s) → Covers p d other
covers_above p s d num other positive covers above = record {
  positive = positive;
  covered = λ c l. covered_over (sum_below (height p) (λ r. num r * entry p r c)) (sum_below (height p) (λ r. other r * entry p r c))
      s d (cost p c) covers.positive (right_sums_at_most (height p) s d num other (λ r. entry p r c) above) (covers.covered c l);
}
  where
    covered_over : (x y s d m : ℕ) → 0 < s → x * d ≤ y * s → s * m ≤ x → d * m ≤ y
    covered_over x y s d m some sums covered =
        le_of_mul-le-mul_right {k = s} (omega (arith, sums, mul-le-mul_left d covered)) some

-- The rounded dual of the end is feasible.
pub dual_is_feasible : (p : ProgramDef) (k : ℕ) (t : Table) (d : DualDef) → IsEndAfter p k t → IsRoundedDual p t d → IsFeasibleDual p d
dual_is_feasible p k t d end dual =
    let behind : (scale : ℤ) × (z : ℕ → ℕ → ℤ) × IsShadow p t scale z = numbers_behind p k t end in
    let positive : 0 < d.den = omega (arith, dual.positive) in
    record {
      number_each = dual.number_each;
      covers = covers_above p (scale_of behind.0) d.den (dual_num p behind.1) (λ r. slice_index d.num r) positive
          (covers_of p t behind.0 behind.1 behind.2 end.last)
          (λ r l. multiplier_not_below p t behind.0 behind.1 r d.den (slice_index d.num r) behind.2 end.last l positive (dual.rounded r l));
    }
