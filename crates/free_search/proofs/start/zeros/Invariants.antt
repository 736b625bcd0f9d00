use Rattle.std.proofs.Common.{◌≡◌, ℕ, vec_len, slice_index_or, pos}
use Rattle.free_search.proofs.start.zeros.Given as goal

abbrev pub invariant-loop : goal.invariant-loop
invariant-loop l = record { as_many : vec_len l.nums ≡ l.counter; each : (k : ℕ) → slice_index_or l.nums.items k (pos 0) ≡ pos 0 }
