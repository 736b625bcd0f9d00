use Rattle.std.proofs.Common.{◌≡◌, ℕ, length, take, slice_index_or, pos}
use Rattle.program_form.specs.SparseRows.{number_at}
use Rattle.free_search.proofs.start.write_all.Given as goal

abbrev pub invariant-loop-coefficient : goal.invariant-loop-coefficient
invariant-loop-coefficient l = record {
  as_many : length l.nums ≡ length l.initial.nums;
  each : (v : ℕ) → slice_index_or l.nums v (pos 0) ≡ pos (number_at (take l.coefficient-index l.coefficients) v);
}
