use Rattle.std.proofs.Common.{◌-◌, ◌≤◌, length}
use Rattle.whole_rows.proofs.Loops.{AreTimesBetween}
use Rattle.whole_rows.proofs.numbers.multiply_all.Given as goal

abbrev pub invariant-loop-nums : goal.invariant-loop-nums
invariant-loop-nums l = record {
  within : l.first ≤ length l.nums;
  times : AreTimesBetween 0 l.first l.initial.nums l.fn.by l.nums;
}

abbrev pub decreases-loop-nums : goal.decreases-loop-nums
decreases-loop-nums l = length l.nums - l.first
