use Rattle.std.proofs.Common.{length}
use Rattle.program_sources.specs.Recurrence.{source_at}
use Rattle.response_fixpoint.specs.Places.{ArePlaced}
use Rattle.settling.specs.Rising.{IsFoundAt}
use Rattle.settling.proofs.ahead.reach_some.Given as goal

-- what was found so far is of the programs at these bounds
abbrev pub invariant-loop-i : goal.invariant-loop-i
invariant-loop-i g l =
    ArePlaced (IsFoundAt l.points (source_at (g.P.ProgramSource.source l.protocol) l.set) l.bounds) (length l.set.tasks) l.found.items
