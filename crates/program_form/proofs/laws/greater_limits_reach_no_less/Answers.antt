use Rattle.program_form.proofs.Points.{greater_limits_reach, greater_limits_greatest}
use Rattle.program_form.proofs.laws.greater_limits_reach_no_less.Goals as goal

pub returns-clause-reached : goal.returns-clause-reached
returns-clause-reached c = greater_limits_reach

pub returns-clause-greatest : goal.returns-clause-greatest
returns-clause-greatest c = greater_limits_greatest
