use Rattle.schedule_answers.specs.Failures.{AllPass}
use Rattle.dual_check.specs.Answers.{worth_at, IsCovering}
use Rattle.dual_check.proofs.duals.first_uncovered_of.Given as goal

abbrev pub invariant-loop-i : goal.invariant-loop-i
invariant-loop-i l = AllPass l.i (λ i. IsCovering (worth_at l.worths i))
