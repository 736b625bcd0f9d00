use Rattle.std.proofs.Common.{◌≤◌, ◌+◌, ◌-◌}
use Rattle.std.specs.Prelude.{slice_index}
use Rattle.window_laws.specs.Windows.{ticks_there}
use Rattle.window_laws.proofs.Enough.{NoneBelow}
use Rattle.request_windows.proofs.searching.search.Given as goal

abbrev pub invariant-loop-span : goal.invariant-loop-span
invariant-loop-span l = record {
  from : 1 ≤ l.span;
  none : NoneBelow (ticks_there l.at.set.now (slice_index l.at.bounds.now) l.at.i.0 l.at.q.0) l.span;
}

abbrev pub decreases-loop-span : goal.decreases-loop-span
decreases-loop-span l = l.deadline + 1 - l.span
