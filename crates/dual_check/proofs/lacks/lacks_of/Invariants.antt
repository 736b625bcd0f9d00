use Rattle.program_form.specs.Certificate.{dual_seen}
use Rattle.dual_check.specs.Lacks.{AreLacking}
use Rattle.dual_check.proofs.lacks.lacks_of.Given as goal

abbrev pub invariant-loop-r : goal.invariant-loop-r
invariant-loop-r l = AreLacking l.program (dual_seen l.dual) l.r l.lacks.items
