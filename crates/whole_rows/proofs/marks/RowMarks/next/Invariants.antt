use Rattle.std.proofs.Common.{ℕ, ◌<◌, ◌≤◌, ◌-◌}
use Rattle.whole_rows.specs.Marks.{IsMarked}
use Rattle.whole_rows.proofs.marks.RowMarks.next.Given as goal

abbrev pub invariant-loop-from : goal.invariant-loop-from
invariant-loop-from l = record {
  order : l.i ≤ l.from;
  none : (j : ℕ) → l.i ≤ j → j < l.from → IsMarked l.self l.v j → ⊥;
}

abbrev pub decreases-loop-from : goal.decreases-loop-from
decreases-loop-from l = l.end - l.from
