-- Which whole values are reached: zero, with each value the smaller ones, and no less if limits grow.
use Rattle.std.proofs.Common.{ℕ, zero, suc, ◌*◌, ◌<◌, ◌≤◌, arith}
use Rattle.std.proofs.Math.Nat.{mul-le-mul_left}
use Rattle.number_laws.specs.Sums.{sum_below}
use Rattle.number_laws.proofs.SumLaws.{sum_below-zero, sum_below-term}
use Rattle.program_form.specs.Program.{ProgramDef, IsProgram, IsCovered, columns, height, cost, entry, limit}
use Rattle.program_form.specs.Points.{IsScaledPoint, worth, Reaches, IsGreatestReached}
use Rattle.program_form.specs.Duals.{Covers}
use Rattle.program_form.specs.Limits.{HasLimitsAtMost}

pub zero_reached : (p : ProgramDef) → Reaches p 0
zero_reached p = record {
  scale = 1;
  point = λ c. 0;
  is_point = record {
    positive = omega arith;
    kept = λ r l. omega (arith, sum_below-zero (columns p) (λ c. entry p r c * 0) (λ c k. omega arith));
  };
  reached = omega arith;
}

less_times : (b c s w : ℕ) → c ≤ b → b * s ≤ w → c * s ≤ w
less_times b c s w l h = omega (arith, mul-le-mul_left s l)

pub less_reached : (p : ProgramDef) (b c : ℕ) → c ≤ b → Reaches p b → Reaches p c
less_reached p b c l reach = record {
  scale = reach.scale;
  point = reach.point;
  is_point = reach.is_point;
  reached = less_times b c reach.scale (worth p reach.point) l reach.reached;
}

times_more : (x s a b : ℕ) → x ≤ s * a → a ≤ b → x ≤ s * b
times_more x s a b h l = omega (arith, mul-le-mul_left s l)

-- A point of the program with the smaller limits is one of that with the greater.
pub kept_by_greater : (p q : ProgramDef) (s : ℕ) (ys : ℕ → ℕ) → HasLimitsAtMost p q → IsScaledPoint p s ys → IsScaledPoint q s ys
kept_by_greater p q s ys less point = record {
  positive = point.positive;
  kept = λ r l. rw (← less.same_costs, ← less.same_rows)
      (times_more (sum_below (columns p) (λ c. entry p r c * ys c)) s (limit p r) (limit q r)
      (point.kept r (rw less.same_rows l)) (less.limits r (rw less.same_rows l)));
}

pub greater_limits_reach : (p q : ProgramDef) (b : ℕ) → HasLimitsAtMost p q → Reaches p b → Reaches q b
greater_limits_reach p q b less reach = record {
  scale = reach.scale;
  point = reach.point;
  is_point = kept_by_greater p q reach.scale reach.point less reach.is_point;
  reached = rw (← less.same_costs) reach.reached;
}

pub greater_limits_greatest : (p q : ProgramDef) (b c : ℕ) → HasLimitsAtMost p q → IsGreatestReached p b → IsGreatestReached q c → b ≤ c
greater_limits_greatest p q b c less best other = other.greatest b (greater_limits_reach p q b less best.reached)

at_least_once : (x a t : ℕ) → x ≤ t → 0 < a → 1 * x ≤ t * a
at_least_once x zero t h l = absurd (omega arith)
at_least_once x (suc a) t h l = omega arith

-- If each column is covered, the sum of the costs, for each row, is a feasible dual.
pub covered_dual : (p : ProgramDef) → ((c : ℕ) → c < columns p → IsCovered p c) → Covers p 1 (λ r. sum_below (columns p) (λ c. cost p c))
covered_dual p covered = record {
  positive = omega arith;
  covered = λ c l.
      let held = covered c l in
      let once : 1 * cost p c ≤ sum_below (columns p) (λ k. cost p k) * entry p held.by_row c
      = at_least_once (cost p c) (entry p held.by_row c) (sum_below (columns p) (λ k. cost p k))
      (sum_below-term (columns p) (λ k. cost p k) c l) held.above in
      omega (arith, once, sum_below-term (height p) (λ r. sum_below (columns p) (λ k. cost p k) * entry p r c) held.by_row held.within);
}

-- So it is of an accepted program.
pub sum_covers : (p : ProgramDef) → IsProgram p → Covers p 1 (λ r. sum_below (columns p) (λ c. cost p c))
sum_covers p accepted = covered_dual p accepted.covered
