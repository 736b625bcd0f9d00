use Rattle.std.proofs.Common.{◌+◌, ◌-◌, ◌≤◌, length}
use Rattle.whole_rows.specs.Numbers.{AreListedTo}
use Rattle.whole_rows.specs.Short.{ArePassed}
use Rattle.whole_rows.proofs.ShortLists.{left_nums}
use Rattle.whole_rows.proofs.short_list.less_listed.Given as goal

-- what is left at the places before `from` is listed, and both lists are read up to there
abbrev pub invariant-loop-place : goal.invariant-loop-place
invariant-loop-place l = record {
  within : l.from ≤ l.end;
  own : ArePassed l.entries l.i l.from;
  other : ArePassed l.others l.j l.from;
  listed : AreListedTo l.from (left_nums l.end l.entries l.k l.fn.f l.others) l.list.items;
}

abbrev pub decreases-loop-place : goal.decreases-loop-place
decreases-loop-place l = (length l.entries - l.i) + (length l.others - l.j)
