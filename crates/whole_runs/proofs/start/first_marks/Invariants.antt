use Rattle.std.proofs.Common.{◌≢◌, ℕ, ◌+◌, ◌<◌}
use Rattle.program_form.specs.Program.{columns, height, entry, cost}
use Rattle.whole_rows.specs.Marks.{IsMarked, HaveRoom}
use Rattle.whole_runs.proofs.start.first_marks.Given as goal

abbrev pub invariant-loop-i : goal.invariant-loop-i
invariant-loop-i l = record {
  room : HaveRoom (columns l.program) (height l.program + 1) l.marks;
  entries : (k i : ℕ) → k < columns l.program → i < l.i → entry l.program i k ≢ 0 → IsMarked l.marks k i;
  costs : (k : ℕ) → k < columns l.program → cost l.program k ≢ 0 → IsMarked l.marks k (height l.program);
}
