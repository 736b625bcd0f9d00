use Rattle.std.proofs.Common.{◌≡◌, ℕ, ◌<◌, [], length}
use Rattle.std.specs.Prelude.{slice_index, slice_index_or}
use Rattle.closer_mpcp.specs.Tables.{AreHeldBeside}
use Rattle.closer_mpcp.proofs.held.held_beside_each.Given as goal

abbrev pub invariant-loop-x : goal.invariant-loop-x
invariant-loop-x l = record {
  one_each : length l.requests.items ≡ l.x;
  each : (x : ℕ) → x < l.x → AreHeldBeside l.set (slice_index l.bounds) l.i.0 x (slice_index_or l.requests.items x []);
}
