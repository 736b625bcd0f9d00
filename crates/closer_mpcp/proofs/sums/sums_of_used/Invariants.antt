use Rattle.std.proofs.Common.{◌≡◌, ℕ, ◌<◌, [], length}
use Rattle.std.specs.Prelude.{slice_index, slice_index_or}
use Rattle.sporadic_model.specs.Users.{used_by}
use Rattle.closer_mpcp.specs.Sums.{AreSumsOf}
use Rattle.closer_mpcp.proofs.sums.sums_of_used.Given as goal

abbrev pub invariant-loop-k : goal.invariant-loop-k
invariant-loop-k g l = record {
  one_each : length l.each.items ≡ l.k;
  each : (k : ℕ) → k < l.k → AreSumsOf l.set l.i.0 (g.R.Requests.made l.requests l.set (slice_index (used_by l.set l.i.0) k))
      (slice_index_or l.each.items k (record { own = []; on = []; all = 0 }));
}
