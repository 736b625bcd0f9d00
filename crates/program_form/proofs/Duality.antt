-- Weak duality, and what follows if a point and a dual have equal values.
use Rattle.std.proofs.Common.{◌≡◌, ℕ, ◌*◌, ◌/◌, ◌<◌, ◌≤◌, sym, ap, ◌∙◌, arith}
use Rattle.std.proofs.Math.Nat.{mul_comm, mul-le-mul_left, le_of_mul-le-mul_right, mul_assoc, mul_left_comm}
use Rattle.std.proofs.lemmas.Nat.{le-div, div-add-mod'}
use Rattle.number_laws.specs.Sums.{sum_below}
use Rattle.number_laws.proofs.SumLaws.{sum_below-agree, sum_below-monotone, sum_below-times, sum_below-times_right, sum_below-swap}
use Rattle.program_form.specs.Program.{ProgramDef, columns, height, cost, entry, limit}
use Rattle.program_form.specs.Points.{IsScaledPoint, worth, Reaches, IsGreatestReached}
use Rattle.program_form.specs.Optimum.{IsOptimum}
use Rattle.program_form.specs.Duals.{Covers, dual_total, dual_value}

turn : (d c y : ℕ) → c * y * d ≡ d * c * y
turn d c y = omega arith

-- A dual that covers the costs, at the values ys of the columns.
covers_worth : (m n : ℕ) (a : ℕ → ℕ → ℕ) (c ys : ℕ → ℕ) (d : ℕ) (num : ℕ → ℕ)
    → ((k : ℕ) → k < n → d * c k ≤ sum_below m (λ r. num r * a r k))
    → sum_below n (λ k. c k * ys k) * d ≤ sum_below n (λ k. sum_below m (λ r. num r * a r k) * ys k)
covers_worth m n a c ys d num h =
    rw (← sum_below-times_right n d (λ k. c k * ys k))
    (sum_below-monotone n (λ k. c k * ys k * d) (λ k. sum_below m (λ r. num r * a r k) * ys k)
    (λ k l. rw (turn d (c k) (ys k)) (rw (mul_comm (d * c k) (ys k), mul_comm (sum_below m (λ r. num r * a r k)) (ys k))
    (mul-le-mul_left (ys k) (h k l)))))

-- The columns' sum of rows is the rows' sum of columns.
by_rows : (m n : ℕ) (a : ℕ → ℕ → ℕ) (ys num : ℕ → ℕ)
    → sum_below n (λ k. sum_below m (λ r. num r * a r k) * ys k) ≡ sum_below m (λ r. num r * sum_below n (λ k. a r k * ys k))
by_rows m n a ys num =
    sum_below-agree n (λ k. sum_below m (λ r. num r * a r k) * ys k) (λ k. sum_below m (λ r. num r * a r k * ys k))
    (λ k l. sym (sum_below-times_right m (ys k) (λ r. num r * a r k)))
    ∙ (sum_below-swap n m (λ k r. num r * a r k * ys k)
    ∙ sum_below-agree m (λ r. sum_below n (λ k. num r * a r k * ys k)) (λ r. num r * sum_below n (λ k. a r k * ys k))
    (λ r l. sum_below-agree n (λ k. num r * a r k * ys k) (λ k. num r * (a r k * ys k)) (λ k j. mul_assoc (num r) (a r k) (ys k))
    ∙ sum_below-times n (num r) (λ k. a r k * ys k)))

-- A point that keeps the rows, at the multipliers num.
kept_limits : (m : ℕ) (s : ℕ) (left limit num : ℕ → ℕ) → ((r : ℕ) → r < m → left r ≤ s * limit r)
    → sum_below m (λ r. num r * left r) ≤ s * sum_below m (λ r. num r * limit r)
kept_limits m s left limit num h =
    rw (← sum_below-times m s (λ r. num r * limit r))
    (sum_below-monotone m (λ r. num r * left r) (λ r. s * (num r * limit r))
    (λ r l. rw (mul_left_comm s (num r) (limit r)) (mul-le-mul_left (num r) (h r l))))

-- No scaled point is worth more than a feasible dual's total over its denominator.
pub weak_duality : (p : ProgramDef) (s : ℕ) (ys : ℕ → ℕ) (den : ℕ) (num : ℕ → ℕ)
    → IsScaledPoint p s ys → Covers p den num → worth p ys * den ≤ s * dual_total p num
weak_duality p s ys den num point dual =
    let columns_first = covers_worth (height p) (columns p) (entry p) (cost p) ys den num dual.covered in
    let rows_first = kept_limits (height p) s (λ r. sum_below (columns p) (λ c. entry p r c * ys c)) (limit p) num point.kept in
    omega (arith, columns_first, rows_first, by_rows (height p) (columns p) (entry p) ys num)

-- If a point's value equals a feasible dual's, it is the optimum.
pub equal_values_optimum : (p : ProgramDef) (s : ℕ) (ys : ℕ → ℕ) (den : ℕ) (num : ℕ → ℕ)
    → IsScaledPoint p s ys → Covers p den num → worth p ys * den ≡ s * dual_total p num → IsOptimum p (dual_total p num) den
equal_values_optimum p s ys den num point dual equal = record {
  positive = dual.positive;
  attained = record { scale = s; point = ys; is_point = point; attained = equal ∙ mul_comm s (dual_total p num) };
  not_passed = λ t zs other. omega (arith, weak_duality p t zs den num other dual, mul_comm t (dual_total p num));
}

-- What is reached is at most the whole part of any fraction that is no less than each point.
below_whole_part : (b s w num den : ℕ) → 0 < s → 0 < den → b * s ≤ w → w * den ≤ num * s → b ≤ num / den
below_whole_part b s w num den ps pd reached passed =
    let one : (b * den) * s ≤ num * s = omega (arith, scaled_up b s w den reached) in
    le-div b num den pd (le_of_mul-le-mul_right one ps)
  where
    scaled_up : (b s w den : ℕ) → b * s ≤ w → (b * den) * s ≤ w * den
    scaled_up b s w den h = omega (arith, mul-le-mul_left den h)

pub not_passed_bounds : (p : ProgramDef) (num den b : ℕ) → 0 < den
    → ((s : ℕ) (ys : ℕ → ℕ) → IsScaledPoint p s ys → worth p ys * den ≤ num * s) → Reaches p b → b ≤ num / den
not_passed_bounds p num den b positive passed reach =
    below_whole_part b reach.scale (worth p reach.point) num den reach.is_point.positive positive reach.reached
    (passed reach.scale reach.point reach.is_point)

-- The whole part of a fraction that a point attains is reached.
attained_whole_part : (s w num den : ℕ) → 0 < den → w * den ≡ num * s → num / den * s ≤ w
attained_whole_part s w num den pd equal =
    le_of_mul-le-mul_right (omega (arith, whole_times s num den, equal)) pd
  where
    whole_times : (s num den : ℕ) → (num / den * s) * den ≤ num * s
    whole_times s num den = omega (arith, mul-le-mul_left s (whole_at_most num den))
      where
        whole_at_most : (num den : ℕ) → num / den * den ≤ num
        whole_at_most num den = omega (arith, div-add-mod' num den)

pub optimum_reached : (p : ProgramDef) (num den : ℕ) → IsOptimum p num den → IsGreatestReached p (num / den)
optimum_reached p num den best =
    let at = best.attained in record {
      reached = record {
        scale = at.scale;
        point = at.point;
        is_point = at.is_point;
        reached = attained_whole_part at.scale (worth p at.point) num den best.positive at.attained;
      };
      greatest = λ b reach. not_passed_bounds p num den b best.positive best.not_passed reach;
    }

-- A feasible dual's value bounds what is reached.
pub dual_bounds : (p : ProgramDef) (den : ℕ) (num : ℕ → ℕ) (b : ℕ) → Covers p den num → Reaches p b → b ≤ dual_value p den num
dual_bounds p den num b dual reach =
    not_passed_bounds p (dual_total p num) den b dual.positive
    (λ s ys point. omega (arith, weak_duality p s ys den num point dual, mul_comm s (dual_total p num))) reach

-- If a point's value equals a feasible dual's, the whole part is the greatest whole value that is reached.
pub equal_values_greatest : (p : ProgramDef) (s : ℕ) (ys : ℕ → ℕ) (den : ℕ) (num : ℕ → ℕ)
    → IsScaledPoint p s ys → Covers p den num → worth p ys * den ≡ s * dual_total p num → IsGreatestReached p (dual_value p den num)
equal_values_greatest p s ys den num point dual equal =
    optimum_reached p (dual_total p num) den (equal_values_optimum p s ys den num point dual equal)

-- Two fractions are equal if each is attained, and no point is worth more than either.
not_less : (p : ProgramDef) (num den num' den' : ℕ) → IsOptimum p num den → IsOptimum p num' den' → num * den' ≤ num' * den
not_less p num den num' den' best other =
    let at = best.attained in
    let bound : worth p at.point * den' ≤ num' * at.scale = other.not_passed at.scale at.point at.is_point in
    cross num den num' den' at.scale (worth p at.point) at.is_point.positive at.attained bound
  where
    cross : (num den num' den' s w : ℕ) → 0 < s → w * den ≡ num * s → w * den' ≤ num' * s → num * den' ≤ num' * den
    cross num den num' den' s w positive equal bound =
        le_of_mul-le-mul_right (omega (arith, ap (λ x. x * den') equal, mul-le-mul_left den bound)) positive

pub one_optimum : (p : ProgramDef) (num den num' den' : ℕ) → IsOptimum p num den → IsOptimum p num' den' → num * den' ≡ num' * den
one_optimum p num den num' den' best other = omega (arith, not_less p num den num' den' best other, not_less p num' den' num den other best)

pub one_greatest : (p : ProgramDef) (b c : ℕ) → IsGreatestReached p b → IsGreatestReached p c → b ≡ c
one_greatest p b c best other = omega (arith, best.greatest c other.reached, other.greatest b best.reached)
