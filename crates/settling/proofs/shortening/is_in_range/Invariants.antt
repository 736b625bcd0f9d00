use Rattle.std.proofs.Common.{ℕ, ◌<◌, ◌≤◌}
use Rattle.std.specs.Prelude.{slice_index}
use Rattle.sporadic_model.specs.SetDef.{task_at, latest_bound}
use Rattle.settling.proofs.shortening.is_in_range.Given as goal

abbrev pub invariant-loop-i : goal.invariant-loop-i
invariant-loop-i l = (j : ℕ) → j < l.i
    → ((task_at l.set j).cost ≤ slice_index l.bounds j) × (slice_index l.bounds j ≤ latest_bound (task_at l.set j))
