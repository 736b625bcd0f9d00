use Rattle.std.proofs.Common.{◌≡◌, length}
use Rattle.std.specs.Prelude.{slice_index}
use Rattle.blocking_columns.specs.Stretches.{slot, BeginsAt}
use Rattle.blocking_columns.specs.TaskPlaces.{ArePlacesBelow}
use Rattle.blocking_columns.proofs.stretches.task_places.Given as goal

abbrev pub invariant-loop-x : goal.invariant-loop-x
invariant-loop-x l = record {
  one_each : length l.places.items ≡ l.x;
  each : ArePlacesBelow l.set (slice_index l.bounds) l.i.0 l.x l.columns l.places.items;
  place : BeginsAt (slot l.x 0) l.columns l.place;
}
