use Rattle.std.proofs.Common.{ℕ, ◌<◌, ◌^◌}
use Rattle.refusal_laws.specs.Steps.{step_at}
use Rattle.refusal_laws.specs.Seen.{steps_seen}
use Rattle.settling.proofs.refusals.keeps_64_bits.Given as goal

abbrev pub invariant-loop-k : goal.invariant-loop-k
invariant-loop-k l = (j : ℕ) → j < l.k
    → ((step_at (steps_seen l.refusal) j).task < 2 ^ 64) × ((step_at (steps_seen l.refusal) j).value < 2 ^ 64)
