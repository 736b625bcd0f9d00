use Rattle.program_form.proofs.Greatest.{reaches}
use Rattle.program_form.proofs.reach_laws.reaching_is_decided.Goals as goal

pub returns : goal.returns
returns c = reaches
