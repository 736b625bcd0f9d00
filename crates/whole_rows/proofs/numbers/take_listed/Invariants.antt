use Rattle.whole_rows.proofs.Loops.{AreLessTo}
use Rattle.whole_rows.proofs.numbers.take_listed.Given as goal

abbrev pub invariant-loop-entry : goal.invariant-loop-entry
invariant-loop-entry l = AreLessTo l.entry-index l.initial.nums l.fn.f l.entries l.nums
