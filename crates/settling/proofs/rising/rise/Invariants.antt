use Rattle.std.proofs.Common.{ℕ, ◌≤◌, ◌-◌, List}
use Rattle.sporadic_model.specs.Bounds.{IsInRange}
use Rattle.program_sources.specs.Recurrence.{source_at}
use Rattle.program_sources.specs.Fitting.{AreBelowAllFitting}
use Rattle.response_fixpoint.specs.Rounds.{Reaches}
use Rattle.settling.specs.Rising.{AreFoundAt}
use Rattle.settling.specs.Trails.{IsTrail}
use Rattle.settling.specs.WalkRounds.{AreWrittenIfRounded}
use Rattle.settling.specs.Walks.{walk}
use Rattle.settling.proofs.rising.rise.Given as goal

-- the rounds of the walk have come to these bounds, with the units that are spent, and the steps lead there; the bounds are at most every
-- fitting vector; what was found before is of other bounds
abbrev pub invariant-loop-round : goal.invariant-loop-round
invariant-loop-round g l = record {
  way : (k : ℕ) × Reaches (walk l.points (source_at (g.P.ProgramSource.source l.protocol) l.set)) l.allowance k l.spent l.bounds.items;
  within : l.spent ≤ l.allowance;
  range : IsInRange l.set l.bounds.items;
  below : AreBelowAllFitting (source_at (g.P.ProgramSource.source l.protocol) l.set) l.bounds.items;
  before : (u : List ℕ) × AreFoundAt l.points (source_at (g.P.ProgramSource.source l.protocol) l.set) u l.before.items;
  trail : IsTrail (source_at (g.P.ProgramSource.source l.protocol) l.set) l.bounds.items l.steps;
  written : AreWrittenIfRounded l.points l.steps;
}

abbrev pub decreases-loop-round : goal.decreases-loop-round
decreases-loop-round g l = l.allowance - l.spent
