use Rattle.dflp_laws.proofs.Programs.{dflp_is_program}
use Rattle.dflp_laws.proofs.programs_are_accepted.Goals as goal

pub returns : goal.returns
returns c = dflp_is_program
