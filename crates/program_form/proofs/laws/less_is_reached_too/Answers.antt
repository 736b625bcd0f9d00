use Rattle.program_form.proofs.Points.{zero_reached, less_reached}
use Rattle.program_form.proofs.laws.less_is_reached_too.Goals as goal

pub returns-clause-zero : goal.returns-clause-zero
returns-clause-zero c = zero_reached

pub returns-clause-less : goal.returns-clause-less
returns-clause-less c = less_reached
