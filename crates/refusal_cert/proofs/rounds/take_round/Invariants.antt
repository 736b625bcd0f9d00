use Rattle.std.proofs.Common.{◌≤◌, map}
use Rattle.program_sources.specs.Recurrence.{source_at}
use Rattle.refusal_laws.specs.Seen.{step_seen}
use Rattle.response_fixpoint.specs.Places.{AreEach}
use Rattle.response_fixpoint.specs.Solutions.{IsPlanned, AreKept}
use Rattle.refusal_cert.specs.Answers.{HasFound}
use Rattle.refusal_cert.proofs.rounds.take_round.Given as goal

-- the tasks so far pass, each with a unit or more, within the units that were left, their steps are written, their programs are kept,
-- and the plan goes on from the next task
abbrev pub invariant-loop-i : goal.invariant-loop-i
invariant-loop-i g l = record {
  found : HasFound (source_at (g.P.ProgramSource.source l.protocol) l.set) l.bounds l.left l.i
      (map step_seen l.initial.steps.items) (map step_seen l.steps.items) l.round;
  within : l.round.used ≤ l.left;
  least : l.i ≤ l.round.used;
  kept : AreKept (source_at (g.P.ProgramSource.source l.protocol) l.set) l.bounds l.i l.round.kept.items;
  planned : AreEach (IsPlanned (source_at (g.P.ProgramSource.source l.protocol) l.set) l.bounds l.left) l.i l.plan.rest.items;
}
