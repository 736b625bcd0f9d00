use Rattle.std.proofs.Common.{◌≡◌, ◌≤◌, max, map, drop}
use Rattle.number_laws.specs.Sums.{only_if}
use Rattle.sporadic_model.specs.declared.ids.TaskId.{TaskId}
use Rattle.window_laws.proofs.KeptGreatest.{greatest_of}
use Rattle.mpcp_window_laws.specs.MpcpWindows.{may_hold_before, holding_ticks}
use Rattle.closer_mpcp.proofs.lower_holders.longest_lower_holding.Given as goal

abbrev pub invariant-loop-y : goal.invariant-loop-y
invariant-loop-y l = record {
  value : max l.longest (greatest_of (map (λ (y : TaskId). only_if (may_hold_before l.set l.i.0 l.q.0 y.0) (holding_ticks l.set l.i.0 l.q.0 y.0)) (drop l.y-index l.users)))
      ≡ greatest_of (map (λ (y : TaskId). only_if (may_hold_before l.set l.i.0 l.q.0 y.0) (holding_ticks l.set l.i.0 l.q.0 y.0)) l.users);
  most : l.longest ≤ 65000000000;
}
