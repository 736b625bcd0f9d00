use Rattle.std.proofs.Common.{ℕ, ◌-◌, ◌≤◌, map, length}
use Rattle.blocking_columns.specs.ColumnDef.{column_seen}
use Rattle.fragments.specs.Constraints.{per}
use Rattle.blocking_columns.specs.Stretches.{slot, BeginsAt}
use Rattle.fragments.proofs.walks.add_requests_from.Given as goal

-- The rows of some first resources are taken, and the columns of the others begin at the place.
abbrev pub invariant-loop-q : goal.invariant-loop-q
invariant-loop-q g l = (next : ℕ) × (next ≤ length l.set.resources) × (BeginsAt (slot l.x.0 next) l.columns l.place)
    × (g.T.RowTaker.takes l.initial.taker (map column_seen l.columns)
    (per next (g.R.PerRequest.row_of l.rows l.set l.i.0 l.x.0)) l.bounds l.taker)

abbrev pub decreases-loop-q : goal.decreases-loop-q
decreases-loop-q g l = length l.columns - l.place
