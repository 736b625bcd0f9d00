use Rattle.std.proofs.Common.{◌≡◌, ℕ, vec_len, None}
use Rattle.whole_runs.specs.States.{row_at}
use Rattle.whole_runs.proofs.start.first_rows.Given as goal

abbrev pub invariant-loop : goal.invariant-loop
invariant-loop l = record {
  len : vec_len l.rows ≡ l.counter;
  untouched : (i : ℕ) → row_at l.rows.items i ≡ None;
}
