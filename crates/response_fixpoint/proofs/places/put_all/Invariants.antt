use Rattle.std.proofs.Common.{◌≡◌, length}
use Rattle.response_fixpoint.specs.Places.{AreBelow, places_with}
use Rattle.response_fixpoint.proofs.places.put_all.Given as goal

-- with what is left of it the places are those with all that was found
abbrev pub invariant-loop-placed : goal.invariant-loop-placed
invariant-loop-placed g l = record {
  len : length l.places ≡ length l.initial.places;
  below : AreBelow (length l.initial.places) l.placed-iterator.rest.items;
  each : places_with l.places l.placed-iterator.rest.items ≡ places_with l.initial.places l.fn.found.items;
}
