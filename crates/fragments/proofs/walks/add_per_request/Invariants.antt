use Rattle.std.proofs.Common.{◌≡◌, map, length}
use Rattle.std.specs.Prelude.{slice_index}
use Rattle.blocking_columns.specs.ColumnDef.{column_seen}
use Rattle.fragments.specs.Constraints.{per_pair}
use Rattle.blocking_columns.specs.Stretches.{slot, BeginsAt}
use Rattle.blocking_columns.specs.TaskPlaces.{ArePlacesBelow}
use Rattle.fragments.proofs.walks.add_per_request.Given as goal

abbrev pub invariant-loop-x : goal.invariant-loop-x
invariant-loop-x g l = record {
  rows : g.T.RowTaker.takes l.initial.taker (map column_seen l.columns)
      (per_pair l.x (length l.set.resources) (g.R.PerRequest.row_of l.rows l.set l.i.0)) l.bounds l.taker;
  one_each : length l.places.items ≡ l.x;
  each : ArePlacesBelow l.set (slice_index l.bounds) l.i.0 l.x l.columns l.places.items;
  place : BeginsAt (slot l.x 0) l.columns l.place;
}
