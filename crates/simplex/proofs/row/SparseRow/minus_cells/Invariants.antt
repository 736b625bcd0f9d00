use Rattle.std.proofs.Common.{◌≡◌, ℕ, ◌<◌, ◌+◌, vec_len}
use Rattle.fraction128.specs.Scaling.{fraction_at}
use Rattle.exchange_runs.specs.Readings.{minus}
use Rattle.simplex.specs.Rows.{cell_at}
use Rattle.simplex.proofs.row.SparseRow.minus_cells.Given as goal

abbrev pub invariant-loop-v : goal.invariant-loop-v
invariant-loop-v l = record {
  len : l.first + vec_len l.list ≡ l.v;
  each : (r : ℕ) → r < vec_len l.list → fraction_at l.list.items r ≡ minus (cell_at l.self (l.first + r));
}
