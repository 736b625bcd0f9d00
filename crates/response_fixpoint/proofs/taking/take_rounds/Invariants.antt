use Rattle.std.proofs.Common.{◌≤◌, ◌-◌}
use Rattle.sporadic_model.specs.Bounds.{IsInRange}
use Rattle.program_sources.specs.Recurrence.{source_at}
use Rattle.response_fixpoint.proofs.taking.take_rounds.Given as goal

-- the rounds have come to these bounds, with the units that are spent, and a round can begin there with this plan
abbrev pub invariant-loop-round : goal.invariant-loop-round
invariant-loop-round g l = record {
  stands : g.S.RoundRecord.stands l.recorded (source_at (g.P.ProgramSource.source l.protocol) l.set) l.allowance l.spent l.bounds.items;
  range : IsInRange l.set l.bounds.items;
  within : l.spent ≤ l.allowance;
  planned : g.S.RoundRecord.begins (source_at (g.P.ProgramSource.source l.protocol) l.set) l.bounds.items (l.allowance - l.spent)
      l.plan.items;
}

abbrev pub decreases-loop-round : goal.decreases-loop-round
decreases-loop-round g l = l.allowance - l.spent
