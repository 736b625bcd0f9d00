use Rattle.std.proofs.Common.{◌+◌, ◌-◌, ◌<◌, ◌≤◌, length}
use Rattle.std.specs.List.{AllWithin}
use Rattle.blocking_columns.specs.Stretches.{slot, slot_of}
use Rattle.blocking_columns.proofs.stretches.requests_end.Given as goal

abbrev pub invariant-loop-place : goal.invariant-loop-place
invariant-loop-place l = record {
  from : l.from ≤ l.place;
  within : l.place ≤ length l.columns;
  before : AllWithin (λ c. slot_of c < slot l.x.0 (l.q.0 + 1)) l.columns 0 l.place;
}

abbrev pub decreases-loop-place : goal.decreases-loop-place
decreases-loop-place l = length l.columns - l.place
