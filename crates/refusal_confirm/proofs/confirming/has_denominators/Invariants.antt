use Rattle.std.proofs.Common.{ℕ, ◌<◌, ◌≤◌}
use Rattle.refusal_laws.specs.Steps.{step_at}
use Rattle.refusal_laws.specs.Seen.{steps_seen}
use Rattle.refusal_confirm.proofs.confirming.has_denominators.Given as goal

-- each denominator so far is at least 1
abbrev pub invariant-loop-k : goal.invariant-loop-k
invariant-loop-k l = (j : ℕ) → j < l.k → 1 ≤ (step_at (steps_seen l.refusal) j).point.den
