use Rattle.simplex.proofs.Taking.{AreTakenTo}
use Rattle.simplex.proofs.exchange.take_all.Given as goal

abbrev pub invariant-loop-i : goal.invariant-loop-i
invariant-loop-i l = AreTakenTo l.i l.initial.rows l.rows l.e l.r l.pivot
