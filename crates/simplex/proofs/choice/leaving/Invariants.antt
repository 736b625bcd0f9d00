use Rattle.simplex.specs.Choice.{IsLeastSoFar}
use Rattle.simplex.specs.Tables.{table_of}
use Rattle.simplex.proofs.choice.leaving.Given as goal

abbrev pub invariant-loop-i : goal.invariant-loop-i
invariant-loop-i l = IsLeastSoFar l.place (table_of l.rows l.basis) l.e l.i l.best
