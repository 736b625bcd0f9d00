use Rattle.std.proofs.Common.{◌≡◌, drop}
use Rattle.program_form.specs.SparseRows.{number_at}
use Rattle.whole_runs.proofs.reading.coefficient_at.Given as goal

abbrev pub invariant-loop-coefficient : goal.invariant-loop-coefficient
invariant-loop-coefficient l = number_at (drop l.coefficient-index l.coefficients) l.k ≡ number_at l.coefficients l.k
