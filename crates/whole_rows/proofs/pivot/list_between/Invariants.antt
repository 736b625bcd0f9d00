use Rattle.whole_rows.proofs.Listed.{AreListedTo}
use Rattle.whole_rows.proofs.pivot.list_between.Given as goal

abbrev pub invariant-loop-place : goal.invariant-loop-place
invariant-loop-place l = AreListedTo l.place l.nums l.list.items
