use Rattle.std.proofs.Common.{◌≡◌, ℕ, ◌+◌, ◌<◌, vec_len, get_or}
use Rattle.free_search.proofs.start.count_from.Given as goal

abbrev pub invariant-loop-k : goal.invariant-loop-k
invariant-loop-k l = record {
  as_many : vec_len l.list ≡ l.k;
  each : (i : ℕ) → i < l.k → get_or l.list.items i 0 ≡ l.first + i;
}
