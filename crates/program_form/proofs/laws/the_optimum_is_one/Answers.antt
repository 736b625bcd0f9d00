use Rattle.program_form.proofs.Duality.{one_optimum, one_greatest}
use Rattle.program_form.proofs.laws.the_optimum_is_one.Goals as goal

pub returns-clause-optimum : goal.returns-clause-optimum
returns-clause-optimum c = one_optimum

pub returns-clause-greatest : goal.returns-clause-greatest
returns-clause-greatest c = one_greatest
