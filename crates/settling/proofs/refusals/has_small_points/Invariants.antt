use Rattle.std.proofs.Common.{ℕ, ◌<◌}
use Rattle.refusal_laws.specs.Steps.{step_at}
use Rattle.refusal_laws.specs.Seen.{steps_seen}
use Rattle.response_fixpoint.specs.Answers.{IsSmallDual}
use Rattle.settling.proofs.refusals.has_small_points.Given as goal

abbrev pub invariant-loop-k : goal.invariant-loop-k
invariant-loop-k l = (j : ℕ) → j < l.k → IsSmallDual (step_at (steps_seen l.refusal) j).point
