use Rattle.std.proofs.Common.{◌≤◌, map}
use Rattle.schedule_model.specs.Seen.{place_seen}
use Rattle.phase_machine.specs.Least.{IsLeastOf, IsLeft}
use Rattle.phase_machine.proofs.stretch.least_left.Given as goal

abbrev pub invariant-loop-named : goal.invariant-loop-named
invariant-loop-named l = record {
  some : 1 ≤ l.least;
  least : IsLeastOf l.most (IsLeft l.jobs.jobs l.places (map place_seen l.running) l.named-index) l.least;
}
