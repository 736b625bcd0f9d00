use Rattle.std.proofs.Common.{length}
use Rattle.program_sources.specs.Recurrence.{source_at}
use Rattle.response_fixpoint.specs.Places.{ArePlaced}
use Rattle.response_fixpoint.specs.Solutions.{IsOutcome}
use Rattle.response_fixpoint.proofs.ahead.solve_some.Given as goal

-- what was found so far is what the programs gave
abbrev pub invariant-loop-i : goal.invariant-loop-i
invariant-loop-i g l =
    ArePlaced (IsOutcome (source_at (g.P.ProgramSource.source l.protocol) l.set) l.bounds l.left) (length l.set.tasks) l.found.items
