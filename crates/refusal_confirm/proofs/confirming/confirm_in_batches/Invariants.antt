use Rattle.std.proofs.Common.{ℕ, ◌-◌, ◌<◌, ◌≤◌, map, length}
use Rattle.program_sources.specs.Recurrence.{source_at}
use Rattle.refusal_laws.specs.Seen.{step_seen}
use Rattle.refusal_confirm.specs.Tests.{Passes}
use Rattle.refusal_confirm.specs.Walks.{HasComeTo}
use Rattle.refusal_confirm.proofs.confirming.confirm_in_batches.Given as goal

-- the steps so far have passed all tests, and the walk has come to the next one
abbrev pub invariant-loop-done : goal.invariant-loop-done
invariant-loop-done g l = record {
  come : HasComeTo l.set (map step_seen l.steps) l.done l.walk.bounds.items l.walk.is_over;
  passed : (j : ℕ) → j < l.done → Passes (source_at (g.P.ProgramSource.source l.protocol) l.set) (map step_seen l.steps) j;
  most : l.done ≤ length l.steps;
}

abbrev pub decreases-loop-done : goal.decreases-loop-done
decreases-loop-done g l = length l.steps - l.done
