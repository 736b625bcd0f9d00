use Rattle.std.proofs.Common.{◌≡◌, ℕ, ◌<◌, ◌==◌, length, take, count_by}
use Rattle.std.specs.Prelude.{slice_index}
use Rattle.sporadic_model.specs.Homes.{home_in}
use Rattle.blocking_columns.proofs.homes.count_homes.Given as goal

abbrev pub invariant-loop-r : goal.invariant-loop-r
invariant-loop-r l = record {
  size : length l.counts ≡ length l.initial.counts;
  each : (k : ℕ) → k < length l.counts → slice_index l.counts k ≡ count_by (λ r. home_in l.set r.0 == k) (take l.r-index l.used);
}
