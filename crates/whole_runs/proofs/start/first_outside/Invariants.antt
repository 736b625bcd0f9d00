use Rattle.std.proofs.Common.{◌≡◌, ℕ, ◌<◌, vec_len, get_or}
use Rattle.whole_runs.proofs.start.first_outside.Given as goal

abbrev pub invariant-loop-c : goal.invariant-loop-c
invariant-loop-c l = record {
  len : vec_len l.outside ≡ l.c;
  own : (i : ℕ) → i < l.c → get_or l.outside.items i 0 ≡ i;
}
