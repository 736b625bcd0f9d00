-- The optimum of a program, as a fraction.
use Rattle.std.specs.Prelude.{◌≡◌, ℕ, ◌*◌, ◌<◌, ◌≤◌}
use Rattle.program_form.specs.Program.{ProgramDef}
use Rattle.program_form.specs.Points.{IsScaledPoint, worth}

-- Is some scaled point worth exactly num over den?
pub record Attains (p : ProgramDef) (num den : ℕ) : Type 0 where
  pub scale : ℕ
  pub point : ℕ → ℕ
  pub is_point : IsScaledPoint p scale point
  pub attained : worth p point * den ≡ num * scale

-- Is num over den the optimum: does some scaled point attain it, and is none worth more?
pub record IsOptimum (p : ProgramDef) (num den : ℕ) : Type 0 where
  pub positive : 0 < den
  pub attained : Attains p num den
  pub not_passed : (s : ℕ) (ys : ℕ → ℕ) → IsScaledPoint p s ys → worth p ys * den ≤ num * s
