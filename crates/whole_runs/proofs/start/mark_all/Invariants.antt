use Rattle.std.proofs.Common.{◌≢◌, ℕ, take}
use Rattle.program_form.specs.SparseRows.{number_at}
use Rattle.whole_rows.specs.Marks.{IsMarked, AreKept}
use Rattle.whole_runs.proofs.start.mark_all.Given as goal

abbrev pub invariant-loop-coefficient : goal.invariant-loop-coefficient
invariant-loop-coefficient l = record {
  own : (v : ℕ) → number_at (take l.coefficient-index l.coefficients) v ≢ 0 → IsMarked l.marks v l.i;
  kept : AreKept l.initial.marks l.marks;
}
