-- Programs that differ only in their limits.
use Rattle.std.specs.Prelude.{◌≡◌, ℕ, ◌<◌, ◌≤◌}
use Rattle.program_form.specs.Program.{ProgramDef, height, limit}

-- Have p and q the same costs and rows, and is each limit of p at most that of q?
pub record HasLimitsAtMost (p q : ProgramDef) : Type 0 where
  pub same_costs : p.costs ≡ q.costs
  pub same_rows : p.rows ≡ q.rows
  pub limits : (r : ℕ) → r < height p → limit p r ≤ limit q r
