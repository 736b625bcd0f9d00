use Rattle.std.proofs.Common.{◌≡◌, ℕ, ◌+◌, length}
use Rattle.program_sources.specs.Recurrence.{source_at}
use Rattle.response_fixpoint.specs.Places.{AreEach}
use Rattle.response_fixpoint.specs.Solutions.{IsPlanned, IsKept}
use Rattle.response_fixpoint.proofs.plan.next_plan.Given as goal

-- the programs so far are those of the tasks at these bounds, and those that are left are those of the tasks behind them
abbrev pub invariant-loop-last : goal.invariant-loop-last
invariant-loop-last g l = record {
  count : length l.plan.items + length l.last-iterator.rest.items ≡ length l.set.tasks;
  planned : (left : ℕ) → AreEach (IsPlanned (source_at (g.P.ProgramSource.source l.protocol) l.set) l.bounds left) 0 l.plan.items;
  kept : AreEach (IsKept (source_at (g.P.ProgramSource.source l.protocol) l.set) l.earlier) (length l.plan.items) l.last-iterator.rest.items;
}
