-- What is read from the last table of a run: the value, the primal, and the dual with its least common denominator.
use Rattle.std.specs.Prelude.{◌≡◌, ◌≢◌, ◌⊎◌, ℕ, ◌<◌, ◌^◌, List, All, length, pos, neg_ℤ}
use Rattle.fraction128.specs.Fraction.{Fraction, over, whole}
use Rattle.fraction128.specs.Scaling.{IsLeastCommon, AreScaled, IsWideOver, fraction_at}
use Rattle.program_form.specs.Program.{ProgramDef, columns, height}
use Rattle.program_form.specs.Certificate.{DualDef}
use Rattle.exchange_runs.specs.Table.{Table, variables, slack, objective}

-- The fraction of the other sign.
abbrev pub minus : Fraction → Fraction
minus f = over (neg_ℤ f.num) f.den

-- The value of table t: minus the objective's limit cell.
abbrev pub value_of : ProgramDef → Table → Fraction
value_of p t = minus (objective p t (variables p))

-- The dual of row r: minus its slack's objective cell.
abbrev pub dual_at : ProgramDef → Table → ℕ → Fraction
dual_at p t r = minus (objective p t (slack p r))

-- Is f the value of variable v among the rows below k? It is the limit, at the given place, of the row whose basic variable is v. If there
-- is none, it is zero.
abbrev pub IsValueOf : ℕ → Table → ℕ → ℕ → Fraction → Type 0
IsValueOf place t k v f =
    ((i : ℕ) × (i < k) × (t.basic i ≡ v) × (f ≡ t.cell i place))
    ⊎ (((i : ℕ) → i < k → t.basic i ≢ v) × (f ≡ whole (pos 0)))

-- Are these the values of the columns?
pub record IsPrimal (p : ProgramDef) (t : Table) (primal : List Fraction) : Type 0 where
  pub value_each : length primal ≡ columns p
  pub values : (c : ℕ) → c < columns p → IsValueOf (variables p) t (height p) c (fraction_at primal c)

-- Are these the duals of the rows?
pub record AreDuals (p : ProgramDef) (t : Table) (duals : List Fraction) : Type 0 where
  pub dual_each : length duals ≡ height p
  pub duals_are : (r : ℕ) → r < height p → fraction_at duals r ≡ dual_at p t r

-- Is d the dual of table t, over the least common denominator of the rows' duals, with all numbers below 2^63?
pub record IsWrittenDual (p : ProgramDef) (t : Table) (d : DualDef) : Type 0 where
  pub duals : List Fraction
  pub are_duals : AreDuals p t duals
  pub least : IsLeastCommon duals d.den
  pub scaled : AreScaled d.den duals d.num
  pub small_den : d.den < 2 ^ 63
  pub small_num : All (λ k. k < 2 ^ 63) d.num

-- Is the end at table t wide: is the least common denominator of the rows' duals, or a number over it, above 2^63 - 1?
pub record IsWideEnd (p : ProgramDef) (t : Table) : Type 0 where
  pub duals : List Fraction
  pub are_duals : AreDuals p t duals
  pub common : ℕ
  pub least : IsLeastCommon duals common
  pub wide : IsWideOver common duals

-- Are these the value, the primal and the dual of table t?
pub record IsReadOff (p : ProgramDef) (t : Table) (value : Fraction) (primal : List Fraction) (d : DualDef) : Type 0 where
  pub is_value : value ≡ value_of p t
  pub is_primal : IsPrimal p t primal
  pub is_dual : IsWrittenDual p t d
