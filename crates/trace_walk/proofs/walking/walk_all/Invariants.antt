use Rattle.std.proofs.Common.{◌≡◌, ◌-◌, ◌≤◌, length}
use Rattle.schedule_model.specs.RowDef.{row_in}
use Rattle.trace_walk.specs.Runs.{ticks_before}
use Rattle.trace_walk.specs.Reached.{IsReached}
use Rattle.trace_walk.proofs.walking.walk_all.Given as goal

abbrev pub invariant-runs : goal.invariant-runs
invariant-runs g l = record {
  rows : g.R.RowReader.rows l.rows ≡ g.R.RowReader.rows l.initial.rows;
  within : g.R.RowReader.at l.rows ≤ length (g.R.RowReader.rows l.initial.rows).runs;
  list : l.machine.list ≡ l.initial.machine.list;
  tick : l.machine.tick ≡ ticks_before (g.R.RowReader.rows l.initial.rows).runs (g.R.RowReader.at l.rows);
  reached : IsReached (g.P.BlockingProtocol.keeps l.protocol) (g.K.Keeper.kept l.keeper l.protocol)
      (row_in (g.R.RowReader.rows l.initial.rows).runs) l.machine l.notes;
}

abbrev pub decreases-runs : goal.decreases-runs
decreases-runs g l = length (g.R.RowReader.rows l.initial.rows).runs - g.R.RowReader.at l.rows
