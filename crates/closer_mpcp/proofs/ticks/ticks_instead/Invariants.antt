use Rattle.std.proofs.Common.{◌≡◌, ◌*◌, ◌≤◌}
use Rattle.std.specs.Prelude.{slice_index}
use Rattle.number_laws.specs.Sums.{sum_below}
use Rattle.mpcp_window_laws.specs.MpcpWindows.{ticks_instead}
use Rattle.closer_mpcp.proofs.ticks.ticks_instead.Given as goal

abbrev pub invariant-loop-x : goal.invariant-loop-x
invariant-loop-x l = record {
  value : l.total ≡ sum_below l.x (ticks_instead l.set (slice_index l.bounds) l.i.0 l.q.0 l.span);
  most : l.total ≤ l.x * 64000000000000000000000;
}
