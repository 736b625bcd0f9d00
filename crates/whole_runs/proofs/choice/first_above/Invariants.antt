use Rattle.whole_runs.specs.Choice.{AreNoneAbove}
use Rattle.whole_runs.proofs.choice.first_above.Given as goal

abbrev pub invariant-loop-v : goal.invariant-loop-v
invariant-loop-v l = AreNoneAbove l.row l.stands l.v
