-- Duals of a program: multipliers of its rows, which give a bound on all its points.
use Rattle.std.specs.Prelude.{◌≡◌, ℕ, ◌*◌, ◌/◌, ◌<◌, ◌≤◌, length, slice_index}
use Rattle.number_laws.specs.Sums.{sum_below}
use Rattle.program_form.specs.Certificate.{DualDef}
use Rattle.program_form.specs.Program.{ProgramDef, columns, height, cost, entry, limit}
use Rattle.program_form.specs.Points.{IsScaledPoint, worth}
use Rattle.program_form.specs.Optimum.{IsOptimum}

-- Is it a feasible dual? Take each row r times num r over den. For each column, the coefficients then add up to at least the column's cost.
pub record Covers (p : ProgramDef) (den : ℕ) (num : ℕ → ℕ) : Type 0 where
  pub positive : 0 < den
  pub covered : (c : ℕ) → c < columns p → den * cost p c ≤ sum_below (height p) (λ r. num r * entry p r c)

-- The total of the limits, each times its multiplier num r.
abbrev pub dual_total : ProgramDef → (ℕ → ℕ) → ℕ
dual_total p num = sum_below (height p) (λ r. num r * limit p r)

-- The dual's value: the whole part of its total over its denominator.
abbrev pub dual_value : ProgramDef → ℕ → (ℕ → ℕ) → ℕ
dual_value p den num = dual_total p num / den

-- Do a scaled point and a feasible dual meet: has the point the dual's value, before it is rounded?
pub record Meet (p : ProgramDef) (s : ℕ) (ys : ℕ → ℕ) (den : ℕ) (num : ℕ → ℕ) : Type 0 where
  pub point : IsScaledPoint p s ys
  pub dual : Covers p den num
  pub equal : worth p ys * den ≡ s * dual_total p num

-- Is the dual feasible: has it a multiplier for each row, and does it cover the program?
pub record IsFeasibleDual (p : ProgramDef) (d : DualDef) : Type 0 where
  pub number_each : length d.num ≡ height p
  pub covers : Covers p d.den (λ r. slice_index d.num r)

-- Is the dual optimal: is it feasible, and is its total over its denominator the optimum?
pub record IsOptimalDual (p : ProgramDef) (d : DualDef) : Type 0 where
  pub feasible : IsFeasibleDual p d
  pub optimum : IsOptimum p (dual_total p (λ r. slice_index d.num r)) d.den
