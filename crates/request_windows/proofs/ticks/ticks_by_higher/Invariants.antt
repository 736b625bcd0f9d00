use Rattle.std.proofs.Common.{◌≡◌, ◌*◌, ◌≤◌}
use Rattle.std.specs.Prelude.{slice_index}
use Rattle.number_laws.specs.Sums.{sum_below}
use Rattle.window_laws.specs.Windows.{ticks_by}
use Rattle.request_windows.proofs.ticks.ticks_by_higher.Given as goal

abbrev pub invariant-loop-x : goal.invariant-loop-x
invariant-loop-x l = record {
  value : l.total ≡ sum_below l.x (ticks_by l.at.set.now (slice_index l.at.bounds.now) l.k l.span);
  most : l.total ≤ l.x * 64000000000000000000000;
}
