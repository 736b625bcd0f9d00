use Rattle.std.proofs.Common.{◌≡◌, ◌≤◌, ◌-◌}
use Rattle.schedule_model.specs.Chosen.{IsSized}
use Rattle.schedule_model.specs.Seen.{row_seen, run_seen}
use Rattle.sim_engine.specs.Writing.{IsUnderWay}
use Rattle.sim_engine.proofs.simulating.simulate_with.Given as goal

abbrev pub invariant-loop-alloc : goal.invariant-loop-alloc
invariant-loop-alloc g l = record {
  list : l.machine.list ≡ l.jobs;
  within : l.machine.tick ≤ l.ticks;
  sized : IsSized l.machine.list.set (row_seen l.row);
  under_way : IsUnderWay (g.P.BlockingProtocol.chooses l.protocol) l.machine l.rows (run_seen l.last);
}

abbrev pub decreases-loop-alloc : goal.decreases-loop-alloc
decreases-loop-alloc g l = l.ticks - l.machine.tick
