use Rattle.std.proofs.Common.{◌≡◌, length}
use Rattle.phase_machine.specs.Shows.{ArePlacesAtFirst}
use Rattle.phase_machine.proofs.starting.first_places.Given as goal

abbrev pub invariant-loop-x : goal.invariant-loop-x
invariant-loop-x l = record {
  len : length l.places.items ≡ l.x;
  each : ArePlacesAtFirst l.jobs.jobs l.x l.places.items;
}
