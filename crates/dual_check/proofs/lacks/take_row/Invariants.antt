use Rattle.std.proofs.Common.{◌≡◌, ℕ, ◌-◌, ◌*◌, length, slice_index, take}
use Rattle.program_form.specs.SparseRows.{number_at}
use Rattle.dual_check.proofs.lacks.take_row.Given as goal

abbrev pub invariant-loop-coefficient : goal.invariant-loop-coefficient
invariant-loop-coefficient l = record {
  one_each : length l.lacks ≡ length l.initial.lacks;
  each : (c : ℕ) → slice_index l.lacks c
      ≡ slice_index l.initial.lacks c - l.numerator * number_at (take l.coefficient-index l.coefficients) c;
}
