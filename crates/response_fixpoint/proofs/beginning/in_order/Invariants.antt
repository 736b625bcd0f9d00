use Rattle.std.proofs.Common.{◌≡◌, length}
use Rattle.program_sources.specs.Recurrence.{source_at}
use Rattle.response_fixpoint.specs.Places.{AreEach, AreEachFound}
use Rattle.response_fixpoint.specs.Solutions.{IsPlanned}
use Rattle.response_fixpoint.proofs.beginning.in_order.Given as goal

-- the programs so far are those of the tasks, and what was begun goes on from the next task
abbrev pub invariant-loop-i : goal.invariant-loop-i
invariant-loop-i g l = record {
  count : length l.plan.items ≡ l.i;
  planned : AreEach (IsPlanned (source_at (g.P.ProgramSource.source l.protocol) l.set) l.bounds l.left) 0 l.plan.items;
  begun : AreEachFound (IsPlanned (source_at (g.P.ProgramSource.source l.protocol) l.set) l.bounds l.left) l.i l.begun.rest.items;
}
