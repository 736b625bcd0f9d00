-- The tests that a certificate passes exactly if it is valid.
use Rattle.std.specs.Prelude.{◌≡◌, ℕ, ◌*◌, ◌<◌, ◌≤◌, length, slice_index}
use Rattle.number_laws.specs.Sums.{sum_below}
use Rattle.program_form.specs.Certificate.{DualDef, CertificateDef}
use Rattle.program_form.specs.Program.{ProgramDef, columns, height, cost, entry}
use Rattle.program_sources.specs.Recurrence.{SourceDef, response_with}
use Rattle.program_sources.specs.Fitting.{tasks_of, latest_of}
use Rattle.program_sources.specs.Valid.{dual_at, value_at}

-- Has the certificate a bound and a dual for each task?
pub record HasSizes (f : SourceDef) (c : CertificateDef) : Type 0 where
  pub bound_each : length c.bounds ≡ tasks_of f
  pub dual_each : length c.duals ≡ tasks_of f

-- Is the bound of task i at most its latest bound, which is its deadline less its jitter?
abbrev pub IsBoundWithin : SourceDef → CertificateDef → ℕ → Type 0
IsBoundWithin f c i = slice_index c.bounds i ≤ latest_of f i

-- Has the dual a numerator for each row of the program?
abbrev pub HasNumerators : ProgramDef → DualDef → Type 0
HasNumerators p d = length d.num ≡ height p

-- Does the dual cover column k? The coefficients of the column, each times the numerator of its row, add up to at least the denominator
-- times the column's cost.
abbrev pub HoldsColumn : ProgramDef → DualDef → ℕ → Type 0
HoldsColumn p d k = d.den * cost p k ≤ sum_below (height p) (λ r. slice_index d.num r * entry p r k)

-- Does it cover each column?
abbrev pub HoldsColumns : ProgramDef → DualDef → Type 0
HoldsColumns p d = (k : ℕ) → k < columns p → HoldsColumn p d k

-- Has the dual of task i a numerator for each row, and does it cover column k, and each column? The program is that at the certificate's
-- bounds.
abbrev pub HasDualSize : SourceDef → CertificateDef → ℕ → Type 0
HasDualSize f c i = HasNumerators (f.program i c.bounds) (dual_at c.duals i)

abbrev pub IsColumnCovered : SourceDef → CertificateDef → ℕ → ℕ → Type 0
IsColumnCovered f c i k = HoldsColumn (f.program i c.bounds) (dual_at c.duals i) k

abbrev pub IsCovered : SourceDef → CertificateDef → ℕ → Type 0
IsCovered f c i = HoldsColumns (f.program i c.bounds) (dual_at c.duals i)

-- Is the response time of task i with its dual's value as blocking at most its bound?
abbrev pub IsEnough : SourceDef → CertificateDef → ℕ → Type 0
IsEnough f c i = response_with f c.bounds i (value_at f c i) ≤ slice_index c.bounds i
