use Rattle.std.proofs.Common.{◌≤◌, ◌+◌, ◌-◌}
use Rattle.std.specs.Prelude.{slice_index}
use Rattle.window_laws.proofs.Enough.{NoneBelow}
use Rattle.mpcp_window_laws.specs.MpcpWindows.{ticks_held}
use Rattle.closer_mpcp.proofs.searching.window_with.Given as goal

abbrev pub invariant-loop-span : goal.invariant-loop-span
invariant-loop-span l = record {
  from : 1 ≤ l.span;
  none : NoneBelow (ticks_held l.set (slice_index l.bounds) l.i.0 l.q.0) l.span;
}

abbrev pub decreases-loop-span : goal.decreases-loop-span
decreases-loop-span l = l.deadline + 1 - l.span
