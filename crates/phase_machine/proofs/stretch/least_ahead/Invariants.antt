use Rattle.std.proofs.Common.{◌≤◌}
use Rattle.sporadic_model.specs.declared.limits.TheConstants.{MOST_TICKS}
use Rattle.phase_machine.specs.Least.{IsLeastOf, IsAhead}
use Rattle.phase_machine.proofs.stretch.least_ahead.Given as goal

abbrev pub invariant-loop-x : goal.invariant-loop-x
invariant-loop-x l = record {
  some : 1 ≤ l.least;
  least : IsLeastOf MOST_TICKS (IsAhead l.jobs.jobs l.tick l.coming l.x) l.least;
}
