use Rattle.whole_rows.proofs.Loops.{AreDividedTo}
use Rattle.whole_rows.proofs.numbers.divide_all.Given as goal

abbrev pub invariant-loop-k : goal.invariant-loop-k
invariant-loop-k l = AreDividedTo l.k l.initial.nums l.fn.by l.nums
