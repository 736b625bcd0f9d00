use Rattle.std.proofs.Common.{ℕ, ◌<◌, ◌≤◌, pos, unsigned_abs, slice_index_or}
use Rattle.model_cases.proofs.whole_tests.are_within.Given as goal

abbrev pub invariant-loop-num : goal.invariant-loop-num
invariant-loop-num g l = (k : ℕ) → k < l.num-index → unsigned_abs (slice_index_or l.nums k (pos 0)) ≤ l.most
