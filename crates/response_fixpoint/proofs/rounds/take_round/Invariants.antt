use Rattle.std.proofs.Common.{◌≡◌, ◌+◌, ◌≤◌, length}
use Rattle.program_sources.specs.Recurrence.{source_at}
use Rattle.response_fixpoint.specs.Places.{AreEach}
use Rattle.response_fixpoint.specs.Rounds.{Passes}
use Rattle.response_fixpoint.specs.Runs.{rounds_of}
use Rattle.response_fixpoint.specs.Solutions.{AreAhead, IsPlanned, AreKept}
use Rattle.response_fixpoint.specs.Answers.{found_of}
use Rattle.response_fixpoint.proofs.rounds.take_round.Given as goal

-- the tasks so far pass, each with a unit or more, within the units that were left, and the plan and what was solved ahead go on from
-- the next task
abbrev pub invariant-loop-planned : goal.invariant-loop-planned
invariant-loop-planned g l = record {
  count : length l.round.kept.items + length l.planned-iterator.rest.items ≡ length l.set.tasks;
  passed : Passes (rounds_of (source_at (g.P.ProgramSource.source l.protocol) l.set)) l.bounds l.left
      (length l.round.kept.items) (found_of l.round);
  within : l.round.used ≤ l.left;
  least : length l.round.kept.items ≤ l.round.used;
  kept : AreKept (source_at (g.P.ProgramSource.source l.protocol) l.set) l.bounds (length l.round.kept.items) l.round.kept.items;
  planned : AreEach (IsPlanned (source_at (g.P.ProgramSource.source l.protocol) l.set) l.bounds l.left)
      (length l.round.kept.items) l.planned-iterator.rest.items;
  ahead : AreAhead (source_at (g.P.ProgramSource.source l.protocol) l.set) l.bounds l.left
      (length l.round.kept.items) l.outcomes.rest.items;
}
