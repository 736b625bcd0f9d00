use Rattle.simplex.proofs.Dividing.{AreDividedTo}
use Rattle.simplex.proofs.entries.divide_all.Given as goal

abbrev pub invariant-loop-entry : goal.invariant-loop-entry
invariant-loop-entry l = AreDividedTo l.entry-index l.entries l.divided.items l.by
