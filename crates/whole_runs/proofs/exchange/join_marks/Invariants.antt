use Rattle.std.proofs.Common.{ℕ, ◌<◌, ◌/◌, length}
use Rattle.whole_rows.specs.Marks.{IsMarked, AreKept}
use Rattle.whole_rows.specs.Rows.{entry_at}
use Rattle.whole_runs.proofs.exchange.join_marks.Given as goal

abbrev pub invariant-loop-w : goal.invariant-loop-w
invariant-loop-w l = record {
  kept : AreKept l.initial.marks l.marks;
  joined : (m i : ℕ) → m < length l.entries → i / 64 < l.w → IsMarked l.initial.marks l.k i
      → IsMarked l.marks (entry_at l.entries m).place i;
}
