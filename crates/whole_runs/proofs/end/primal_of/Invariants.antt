use Rattle.std.proofs.Common.{◌≡◌, ℕ, ◌<◌, vec_len}
use Rattle.fraction128.specs.Scaling.{fraction_at}
use Rattle.whole_runs.specs.States.{stand_at}
use Rattle.whole_runs.specs.Ends.{IsLowestValue}
use Rattle.whole_runs.proofs.end.primal_of.Given as goal

abbrev pub invariant-loop-c : goal.invariant-loop-c
invariant-loop-c l = record {
  len : vec_len l.values ≡ l.c;
  each : (c : ℕ) → c < l.c → IsLowestValue l.program l.rows (stand_at l.stands c) (fraction_at l.values.items c);
}
