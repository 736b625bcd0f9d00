use Rattle.whole_rows.specs.Numbers.{AreFirst}
use Rattle.whole_rows.proofs.pivot.list_coefficients.Given as goal

abbrev pub invariant-loop-coefficient : goal.invariant-loop-coefficient
invariant-loop-coefficient l = AreFirst l.coefficient-index l.coefficients l.list.items
