-- What are the value and the primal of a run's end to the program? This is said of the program's points alone.
use Rattle.std.specs.Prelude.{◌≡◌, ℕ, ◌<◌, List, length, pos, ◌≤ℤ◌, ◌<ℤ◌, unsigned_abs}
use Rattle.fraction128.specs.Fraction.{Fraction}
use Rattle.fraction128.specs.Scaling.{IsScaled, fraction_at}
use Rattle.program_form.specs.Program.{ProgramDef, columns}
use Rattle.program_form.specs.Points.{IsScaledPoint, worth}
use Rattle.program_form.specs.Optimum.{IsOptimum}

-- Is the fraction the optimum of p?
pub record IsOptimumValue (p : ProgramDef) (f : Fraction) : Type 0 where
  pub not_below : pos 0 ≤ℤ f.num
  pub positive : pos 0 <ℤ f.den
  pub optimum : IsOptimum p (unsigned_abs f.num) (unsigned_abs f.den)

-- Are the fractions, one for each column, a point that meets every row and is worth the value?
pub record IsPointWorth (p : ProgramDef) (primal : List Fraction) (value : Fraction) : Type 0 where
  pub value_each : length primal ≡ columns p
  -- the point over one scale
  pub scale : ℕ
  pub point : ℕ → ℕ
  pub is_point : IsScaledPoint p scale point
  pub columns_are : (c : ℕ) → c < columns p → IsScaled scale (fraction_at primal c) (point c)
  pub worth_is : IsScaled scale value (worth p point)
