use Rattle.std.proofs.Common.{◌+◌, IsTrue}
use Rattle.whole_rows.specs.Numbers.{AreZeroBetween}
use Rattle.whole_rows.proofs.pivot.is_zero_block.Given as goal

abbrev pub invariant-loop-k : goal.invariant-loop-k
invariant-loop-k l = IsTrue l.zero → AreZeroBetween l.nums l.first (l.first + l.k)
