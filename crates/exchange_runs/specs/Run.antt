-- The exchange run of a program.
use Rattle.std.specs.Prelude.{◌≡◌, ℕ, zero, suc, ◌<◌, ◌≤◌}
use Rattle.fraction128.specs.Fraction.{Fraction, IsForm}
use Rattle.program_form.specs.Program.{ProgramDef, height}
use Rattle.exchange_runs.specs.Table.{Table, IsStart}
use Rattle.exchange_runs.specs.Exchange.{IsLast, IsExchangeOver}

-- Is t the table of the run of p after k exchanges, with all values allowed?
abbrev pub ReachedOver : (Fraction → Type 0) → ProgramDef → ℕ → Table → Type 0
ReachedOver IsCell p zero t = IsStart p t
ReachedOver IsCell p (suc k) t = (s : Table) × (e : ℕ) × (r : ℕ) × (ReachedOver IsCell p k s) × (IsExchangeOver IsCell p s t e r)

-- The same if each value has a form.
abbrev pub Reached : ProgramDef → ℕ → Table → Type 0
Reached p k t = ReachedOver IsForm p k t

-- Does the run of p make k exchanges and end at table t?
pub record IsExchangeRun (p : ProgramDef) (k : ℕ) (t : Table) : Type 0 where
  pub reached : Reached p k t
  pub last : IsLast p t

-- Have t and u the same cells and basis, in all rows that count?
pub record IsSameTable (p : ProgramDef) (t u : Table) : Type 0 where
  pub cells : (i v : ℕ) → i ≤ height p → t.cell i v ≡ u.cell i v
  pub basis : (i : ℕ) → i < height p → t.basic i ≡ u.basic i
