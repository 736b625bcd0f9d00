use Rattle.std.proofs.Common.{◌-◌, ◌≤◌, length}
use Rattle.whole_rows.specs.Numbers.{AreListedTo}
use Rattle.whole_rows.proofs.pivot.list_nums.Given as goal

abbrev pub invariant-loop-first : goal.invariant-loop-first
invariant-loop-first l = record {
  within : l.first ≤ length l.nums;
  listed : AreListedTo l.first l.nums l.list.items;
}

abbrev pub decreases-loop-first : goal.decreases-loop-first
decreases-loop-first l = length l.nums - l.first
