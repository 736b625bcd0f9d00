use Rattle.std.proofs.Common.{◌≡◌, ℕ, ◌<◌, [], length}
use Rattle.std.specs.Prelude.{slice_index, slice_index_or}
use Rattle.sporadic_model.specs.Users.{used_by}
use Rattle.closer_mpcp.specs.Sums.{AreLowerSumsOf}
use Rattle.closer_mpcp.proofs.lower.lower_sums_of_used.Given as goal

abbrev pub invariant-loop-k : goal.invariant-loop-k
invariant-loop-k l = record {
  one_each : length l.each.items ≡ l.k;
  each : (k : ℕ) → k < l.k
      → AreLowerSumsOf l.set (l.i.0) (slice_index (used_by l.set l.i.0) k) (slice_index_or l.each.items k (record { own = []; on = []; all = 0 }));
}
