use Rattle.std.proofs.Common.{◌≤◌, ◌-◌, length}
use Rattle.whole_runs.specs.Columns.{AreMarked}
use Rattle.whole_runs.proofs.ColumnReading.{IsReadTo}
use Rattle.whole_runs.proofs.choice.read_column.Given as goal

abbrev pub invariant-loop-i : goal.invariant-loop-i
invariant-loop-i l = record {
  within : l.i ≤ length l.rows;
  marked : AreMarked l.program l.rows l.marks;
  read : IsReadTo l.i l.program l.rows l.k l.column.items;
}

abbrev pub decreases-loop-i : goal.decreases-loop-i
decreases-loop-i l = length l.rows - l.i
