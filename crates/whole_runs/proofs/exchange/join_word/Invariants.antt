use Rattle.std.proofs.Common.{◌≡◌, ℕ, ◌<◌, ◌/◌, ◌%◌}
use Rattle.std.specs.Int.{bit_at}
use Rattle.whole_rows.specs.Marks.{IsMarked, AreKept}
use Rattle.whole_rows.specs.Rows.{entry_at}
use Rattle.whole_runs.proofs.exchange.join_word.Given as goal

abbrev pub invariant-loop-entry : goal.invariant-loop-entry
invariant-loop-entry l = record {
  kept : AreKept l.initial.marks l.marks;
  joined : (m i : ℕ) → m < l.entry-index → i / 64 ≡ l.w → bit_at l.bits (i % 64) ≡ 1 → IsMarked l.marks (entry_at l.entries m).place i;
}
