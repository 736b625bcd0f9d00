use Rattle.std.proofs.Common.{◌≡◌, ℕ, ◌<◌, vec_len}
use Rattle.whole_runs.specs.Starts.{IsFirstRow}
use Rattle.free_search.specs.Tables.{row_at}
use Rattle.free_search.proofs.start.first_rows.Given as goal

abbrev pub invariant-loop-i : goal.invariant-loop-i
invariant-loop-i l = record {
  as_many : vec_len l.rows ≡ l.i;
  each : (k : ℕ) → k < l.i → IsFirstRow l.program k (row_at l.rows.items k);
}
