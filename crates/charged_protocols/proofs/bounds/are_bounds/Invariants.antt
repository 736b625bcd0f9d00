use Rattle.std.proofs.Common.{ℕ, ◌<◌, ◌≤◌}
use Rattle.std.specs.Prelude.{slice_index}
use Rattle.sporadic_model.specs.SetDef.{task_at, latest_bound}
use Rattle.charged_protocols.proofs.bounds.are_bounds.Given as goal

abbrev pub invariant-loop-i : goal.invariant-loop-i
invariant-loop-i l = record {
  from : (k : ℕ) → k < l.i → 1 ≤ slice_index l.bounds k;
  latest : (k : ℕ) → k < l.i → slice_index l.bounds k ≤ latest_bound (task_at l.set k);
}
