use Rattle.std.proofs.Common.{◌≡◌, ◌+◌, ◌≤◌}
use Rattle.schedule_model.specs.RowDef.{row_in}
use Rattle.trace_walk.specs.Runs.{ticks_before}
use Rattle.trace_walk.specs.Reached.{IsReached}
use Rattle.trace_walk.proofs.walking.walk_run.Given as goal

abbrev pub invariant-loop-left : goal.invariant-loop-left
invariant-loop-left g l = record {
  list : l.machine.list ≡ l.initial.machine.list;
  tick : l.machine.tick + l.left ≡ ticks_before (g.R.RowReader.rows l.rows).runs (g.R.RowReader.at l.rows + 1);
  from : l.initial.machine.tick ≤ l.machine.tick;
  reached : IsReached (g.P.BlockingProtocol.keeps l.protocol) (g.K.Keeper.kept l.keeper l.protocol)
      (row_in (g.R.RowReader.rows l.rows).runs) l.machine l.notes;
}

abbrev pub decreases-loop-left : goal.decreases-loop-left
decreases-loop-left g l = l.left
