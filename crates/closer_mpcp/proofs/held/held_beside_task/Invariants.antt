use Rattle.std.proofs.Common.{◌≡◌, ℕ, ◌<◌, ◌≤◌, length}
use Rattle.std.specs.Prelude.{slice_index}
use Rattle.sporadic_model.specs.Users.{used_by}
use Rattle.closer_mpcp.specs.Tables.{shared_beside}
use Rattle.closer_mpcp.proofs.held.held_beside_task.Given as goal

abbrev pub invariant-loop-k : goal.invariant-loop-k
invariant-loop-k l = record {
  enough : length l.held ≡ 32;
  each : (k : ℕ) → k < l.k → slice_index l.held k ≡ shared_beside l.set (slice_index l.bounds) l.i.0 l.x.0 (slice_index (used_by l.set l.i.0) k);
  small : (k : ℕ) → k < l.k → slice_index l.held k ≤ 128000000001000;
}
