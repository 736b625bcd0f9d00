use Rattle.program_form.proofs.Greatest.{greatest_exists}
use Rattle.program_form.proofs.reach_laws.a_greatest_reached_value_exists.Goals as goal

pub returns : goal.returns
returns c = greatest_exists
