-- The points of a program, as whole numbers over one scale, and the values that they reach.
use Rattle.std.specs.Prelude.{ℕ, ◌*◌, ◌<◌, ◌≤◌}
use Rattle.number_laws.specs.Sums.{sum_below}
use Rattle.program_form.specs.Program.{ProgramDef, columns, height, cost, entry, limit}

-- Is it a point: does it meet every row, if each column c has the value ys c over s?
pub record IsScaledPoint (p : ProgramDef) (s : ℕ) (ys : ℕ → ℕ) : Type 0 where
  pub positive : 0 < s
  pub kept : (r : ℕ) → r < height p → sum_below (columns p) (λ c. entry p r c * ys c) ≤ s * limit p r

-- What the point is worth, as a number over its scale.
abbrev pub worth : ProgramDef → (ℕ → ℕ) → ℕ
worth p ys = sum_below (columns p) (λ c. cost p c * ys c)

-- Is some scaled point worth b or more?
pub record Reaches (p : ProgramDef) (b : ℕ) : Type 0 where
  pub scale : ℕ
  pub point : ℕ → ℕ
  pub is_point : IsScaledPoint p scale point
  pub reached : b * scale ≤ worth p point

-- Is b the greatest whole number that some scaled point reaches?
pub record IsGreatestReached (p : ProgramDef) (b : ℕ) : Type 0 where
  pub reached : Reaches p b
  pub greatest : (c : ℕ) → Reaches p c → c ≤ b
