-- One exchange: which variable enters the basis, which row's variable leaves it, and the table after it. The parameter `IsCell` says which
-- values are allowed in a table. In a run that is made with `Frac`s each value has a form.
use Rattle.std.specs.Prelude.{◌≡◌, ◌≢◌, ℕ, ◌<◌, ◌≤◌, pos, ◌≤ℤ◌, ◌<ℤ◌}
use Rattle.fraction128.specs.Fraction.{Fraction, IsForm, IsQuotient, IsProduct, IsDifference, IsAtMost}
use Rattle.program_form.specs.Program.{ProgramDef, height}
use Rattle.exchange_runs.specs.Table.{Table, variables, objective}

-- Does e enter: is it the least variable whose objective cell is above zero?
pub record IsEntering (p : ProgramDef) (t : Table) (e : ℕ) : Type 0 where
  pub within : e < variables p
  pub above : pos 0 <ℤ (objective p t e).num
  pub least : (v : ℕ) → v < e → (objective p t v).num ≤ℤ pos 0

-- Is t the last table of its run: is no objective cell of a variable above zero?
pub record IsLast (p : ProgramDef) (t : Table) : Type 0 where
  pub none : (v : ℕ) → v < variables p → (objective p t v).num ≤ℤ pos 0

-- Has row i a ratio if e enters: is its cell there above zero?
pub record HasRatio (t : Table) (e i : ℕ) : Type 0 where
  pub above : pos 0 <ℤ (t.cell i e).num

-- Is f the ratio of row i: its limit, which is at the given place, over its cell at e?
pub record IsRatioOver (IsCell : Fraction → Type 0) (place : ℕ) (t : Table) (e i : ℕ) (f : Fraction) : Type 0 where
  pub form : IsCell f
  pub quotient : IsQuotient (t.cell i place) (t.cell i e) f

-- Among the rows below k, has r the least ratio, and is it f? Among equal ratios, the one with the least basic variable counts.
pub record IsLeastOver (IsCell : Fraction → Type 0) (place : ℕ) (t : Table) (e k r : ℕ) (f : Fraction) : Type 0 where
  pub within : r < k
  pub has : HasRatio t e r
  pub ratio : IsRatioOver IsCell place t e r f
  pub least : (i : ℕ) → i < k → HasRatio t e i
      → (g : Fraction) × (IsRatioOver IsCell place t e i g) × (IsAtMost f g) × (IsAtMost g f → t.basic r ≤ t.basic i)

-- Does row r leave if e enters?
pub record IsLeavingOver (IsCell : Fraction → Type 0) (p : ProgramDef) (t : Table) (e r : ℕ) : Type 0 where
  pub ratio : Fraction
  pub least : IsLeastOver IsCell (variables p) t e (height p) r ratio

-- Is b what is left of a if f times y is subtracted, and are both values allowed in a table?
pub record IsLessOver (IsCell : Fraction → Type 0) (a f y b : Fraction) : Type 0 where
  pub product : Fraction
  pub product_form : IsCell product
  pub is_product : IsProduct f y product
  pub form : IsCell b
  pub is_difference : IsDifference a product b

-- Is u the table after t if e enters and row r leaves? Row r is divided by its cell at e. From each other row and the objective row its
-- cell at e times the new row r is subtracted.
pub record IsExchangeOver (IsCell : Fraction → Type 0) (p : ProgramDef) (t u : Table) (e r : ℕ) : Type 0 where
  pub enters : IsEntering p t e
  pub leaves : IsLeavingOver IsCell p t e r
  pub divided_form : (v : ℕ) → IsCell (u.cell r v)
  pub divided : (v : ℕ) → IsQuotient (t.cell r v) (t.cell r e) (u.cell r v)
  pub taken : (i v : ℕ) → i ≤ height p → i ≢ r → IsLessOver IsCell (t.cell i v) (t.cell i e) (u.cell r v) (u.cell i v)
  pub entered : u.basic r ≡ e
  pub stayed : (i : ℕ) → i < height p → i ≢ r → u.basic i ≡ t.basic i

-- The same if each value has a form.
abbrev pub IsRatio : ℕ → Table → ℕ → ℕ → Fraction → Type 0
IsRatio place t e i f = IsRatioOver IsForm place t e i f

abbrev pub IsLeastOf : ℕ → Table → ℕ → ℕ → ℕ → Fraction → Type 0
IsLeastOf place t e k r f = IsLeastOver IsForm place t e k r f

abbrev pub IsLeaving : ProgramDef → Table → ℕ → ℕ → Type 0
IsLeaving p t e r = IsLeavingOver IsForm p t e r

abbrev pub IsLess : Fraction → Fraction → Fraction → Fraction → Type 0
IsLess a f y b = IsLessOver IsForm a f y b

abbrev pub IsExchange : ProgramDef → Table → Table → ℕ → ℕ → Type 0
IsExchange p t u e r = IsExchangeOver IsForm p t u e r
