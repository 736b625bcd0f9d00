use Rattle.std.proofs.Common.{◌≢◌, ℕ, ◌<◌}
use Rattle.program_form.specs.Program.{height, cost}
use Rattle.whole_rows.specs.Marks.{IsMarked, AreKept}
use Rattle.whole_runs.proofs.start.mark_costs.Given as goal

abbrev pub invariant-loop-c : goal.invariant-loop-c
invariant-loop-c l = record {
  own : (c : ℕ) → c < l.c → cost l.program c ≢ 0 → IsMarked l.marks c (height l.program);
  kept : AreKept l.initial.marks l.marks;
}
