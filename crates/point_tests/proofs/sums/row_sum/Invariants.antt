use Rattle.std.proofs.Common.{◌≡◌, ◌*◌, length, slice_index, take}
use Rattle.number_laws.specs.Sums.{sum_below}
use Rattle.program_form.specs.SparseRows.{number_at}
use Rattle.point_tests.proofs.sums.row_sum.Given as goal

abbrev pub invariant-loop-coefficient : goal.invariant-loop-coefficient
invariant-loop-coefficient l =
    l.sum ≡ sum_below (length l.num) (λ c. number_at (take l.coefficient-index l.coefficients) c * slice_index l.num c)
