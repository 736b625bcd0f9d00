use Rattle.std.proofs.Common.{refl}
use Rattle.program_laws.proofs.three_tasks_have_few.Goals as goal

pub returns-clause-mpcp : goal.returns-clause-mpcp
returns-clause-mpcp c = refl

pub returns-clause-fmlp_plus : goal.returns-clause-fmlp_plus
returns-clause-fmlp_plus c = refl
