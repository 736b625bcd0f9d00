use Rattle.free_search.specs.Choice.{LeavesAmong}
use Rattle.free_search.proofs.choice.leaving.Given as goal

abbrev pub invariant-loop-i : goal.invariant-loop-i
invariant-loop-i l = LeavesAmong l.best l.i l.rows l.basis l.k
