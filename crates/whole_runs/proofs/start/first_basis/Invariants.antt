use Rattle.std.proofs.Common.{◌≡◌, ℕ, ◌<◌, vec_len, get_or}
use Rattle.exchange_runs.specs.Table.{slack}
use Rattle.whole_runs.proofs.start.first_basis.Given as goal

abbrev pub invariant-loop-r : goal.invariant-loop-r
invariant-loop-r l = record {
  len : vec_len l.basis ≡ l.r;
  slacks : (i : ℕ) → i < l.r → get_or l.basis.items i 0 ≡ slack l.program i;
}
