use Rattle.std.proofs.Common.{◌≡◌, ℕ, ◌<◌, vec_len, get_or}
use Rattle.exchange_runs.specs.Table.{slack}
use Rattle.simplex.proofs.start.first_basis.Given as goal

abbrev pub invariant-loop-i : goal.invariant-loop-i
invariant-loop-i l = record {
  len : vec_len l.basis ≡ l.i;
  slacks : (i : ℕ) → i < l.i → get_or l.basis.items i 0 ≡ slack l.program i;
}
