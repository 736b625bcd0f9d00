use Rattle.std.proofs.Common.{◌-◌}
use Rattle.simplex.proofs.Merging.{AreTakenBelow}
use Rattle.simplex.proofs.entries.take_away.Given as goal

abbrev pub invariant-loop-v : goal.invariant-loop-v
invariant-loop-v l = AreTakenBelow l.entries l.pivot l.left.items l.f l.end l.i l.j l.v

abbrev pub decreases-loop-v : goal.decreases-loop-v
decreases-loop-v l = l.end - l.v
