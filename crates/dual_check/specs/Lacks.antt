-- What the columns of a program still lack, while a dual's rows are taken one after another.
use Rattle.std.specs.Prelude.{◌≡◌, ℕ, ◌-◌, ◌*◌, ◌<◌, List, length, slice_index}
use Rattle.number_laws.specs.Sums.{sum_below}
use Rattle.program_form.specs.Certificate.{DualDef}
use Rattle.program_form.specs.Program.{ProgramDef, columns, cost, entry}
use Rattle.program_form.specs.SparseRows.{number_at}
use Rattle.program_form.specs.declared.sparse_rows.Coefficient.{Coefficient}

-- What does column k lack once the first n rows are taken? Its cost times the denominator, less what these rows hold of it, each times
-- its numerator. If they hold more, it lacks nothing.
abbrev pub lack : ProgramDef → DualDef → ℕ → ℕ → ℕ
lack p d n k = d.den * cost p k - sum_below n (λ r. slice_index d.num r * entry p r k)

-- Is this what each column lacks once the first n rows are taken?
pub record AreLacking (p : ProgramDef) (d : DualDef) (n : ℕ) (lacks : List ℕ) : Type 0 where
  pub one_each : length lacks ≡ columns p
  pub each : (k : ℕ) → k < columns p → slice_index lacks k ≡ lack p d n k

-- Is the row of these coefficients, times its numerator, taken from what each column lacked before?
pub record IsRowTaken (before after : List ℕ) (coefficients : List Coefficient) (numerator : ℕ) : Type 0 where
  pub one_each : length after ≡ length before
  pub each : (c : ℕ) → slice_index after c ≡ slice_index before c - numerator * number_at coefficients c
