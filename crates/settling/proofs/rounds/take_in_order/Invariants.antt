use Rattle.program_sources.specs.Recurrence.{source_at}
use Rattle.response_fixpoint.specs.Places.{AreEachFound}
use Rattle.settling.specs.Rising.{IsFoundAt}
use Rattle.settling.specs.Trails.{IsTrailWithin}
use Rattle.settling.specs.WalkRounds.{found_of, IsPart, AreWrittenIfRounded}
use Rattle.settling.proofs.rounds.take_in_order.Given as goal

-- the tasks so far pass, and the steps lead to what was found of them; what was found ahead goes on from the next task
abbrev pub invariant-loop-i : goal.invariant-loop-i
invariant-loop-i g l = record {
  part : IsPart l.points (source_at (g.P.ProgramSource.source l.protocol) l.set) l.bounds l.left l.i l.round;
  trail : IsTrailWithin (source_at (g.P.ProgramSource.source l.protocol) l.set) l.bounds (found_of l.round) l.i l.steps;
  written : AreWrittenIfRounded l.points l.steps;
  ahead : AreEachFound (IsFoundAt l.points (source_at (g.P.ProgramSource.source l.protocol) l.set) l.bounds) l.i l.ahead.rest.items;
}
