use Rattle.std.proofs.Common.{◌≡◌, ℕ, ◌<◌, vec_len}
use Rattle.simplex.specs.Starts.{IsFirstRow}
use Rattle.simplex.specs.Tables.{row_of}
use Rattle.simplex.proofs.start.first_rows.Given as goal

abbrev pub invariant-loop-i : goal.invariant-loop-i
invariant-loop-i l = record {
  len : vec_len l.rows ≡ l.i;
  first : (i : ℕ) → i < l.i → IsFirstRow l.program i (row_of l.rows.items i);
}
