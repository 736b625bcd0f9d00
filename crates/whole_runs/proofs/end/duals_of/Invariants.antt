use Rattle.std.proofs.Common.{◌≡◌, ℕ, ◌<◌, vec_len}
use Rattle.fraction128.specs.Scaling.{fraction_at}
use Rattle.exchange_runs.specs.Table.{slack}
use Rattle.exchange_runs.specs.Readings.{minus}
use Rattle.exchange_runs.specs.SmallRuns.{IsLowestOf}
use Rattle.whole_runs.specs.States.{stand_at}
use Rattle.whole_runs.specs.Ends.{objective_cell}
use Rattle.whole_runs.proofs.end.duals_of.Given as goal

abbrev pub invariant-loop-r : goal.invariant-loop-r
invariant-loop-r l = record {
  len : vec_len l.duals ≡ l.r;
  each : (r : ℕ) → r < l.r
      → IsLowestOf (minus (objective_cell l.program l.objective (stand_at l.stands (slack l.program r)))) (fraction_at l.duals.items r);
}
