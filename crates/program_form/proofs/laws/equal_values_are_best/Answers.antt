use Rattle.program_form.proofs.Duality.{equal_values_optimum, equal_values_greatest}
use Rattle.program_form.proofs.laws.equal_values_are_best.Goals as goal

pub returns-clause-optimum : goal.returns-clause-optimum
returns-clause-optimum c = λ p s den ys num meet. equal_values_optimum p s ys den num meet.point meet.dual meet.equal

pub returns-clause-greatest : goal.returns-clause-greatest
returns-clause-greatest c = λ p s den ys num meet. equal_values_greatest p s ys den num meet.point meet.dual meet.equal
