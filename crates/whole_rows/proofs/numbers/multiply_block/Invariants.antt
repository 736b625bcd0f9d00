use Rattle.std.proofs.Common.{◌+◌}
use Rattle.whole_rows.proofs.Loops.{AreTimesBetween}
use Rattle.whole_rows.proofs.numbers.multiply_block.Given as goal

abbrev pub invariant-loop-k : goal.invariant-loop-k
invariant-loop-k l = AreTimesBetween l.fn.first (l.fn.first + l.k) l.initial.nums l.fn.by l.nums
