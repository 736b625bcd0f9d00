use Rattle.std.proofs.Common.{length}
use Rattle.program_sources.specs.Recurrence.{source_at}
use Rattle.response_fixpoint.specs.Places.{ArePlaced}
use Rattle.response_fixpoint.specs.Solutions.{IsPlanned}
use Rattle.response_fixpoint.proofs.beginning.begin_some.Given as goal

-- what was begun so far is what the programs are and gave
abbrev pub invariant-loop-i : goal.invariant-loop-i
invariant-loop-i g l =
    ArePlaced (IsPlanned (source_at (g.P.ProgramSource.source l.protocol) l.set) l.bounds l.left) (length l.set.tasks) l.begun.items
