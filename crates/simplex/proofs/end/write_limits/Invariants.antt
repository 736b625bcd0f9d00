use Rattle.std.proofs.Common.{ℕ, ◌<◌, length}
use Rattle.fraction128.specs.Scaling.{fraction_at}
use Rattle.exchange_runs.specs.Readings.{IsValueOf}
use Rattle.simplex.specs.Tables.{table_of}
use Rattle.simplex.proofs.end.write_limits.Given as goal

abbrev pub invariant-loop-i : goal.invariant-loop-i
invariant-loop-i l = (c : ℕ) → c < length l.values → IsValueOf l.place (table_of l.rows l.basis) l.i c (fraction_at l.values c)
