use Rattle.free_search.specs.Exchanges.{AreTakenTo}
use Rattle.free_search.proofs.tableau.take_all.Given as goal

abbrev pub invariant-loop-i : goal.invariant-loop-i
invariant-loop-i l = AreTakenTo l.i l.initial.rows l.rows l.k l.r l.pivot
