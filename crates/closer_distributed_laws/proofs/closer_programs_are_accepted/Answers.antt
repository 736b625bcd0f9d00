use Rattle.closer_distributed_laws.proofs.Programs.{dpcp_closer_is_program, dflp_closer_is_program}
use Rattle.closer_distributed_laws.proofs.closer_programs_are_accepted.Goals as goal

pub returns-clause-dpcp : goal.returns-clause-dpcp
returns-clause-dpcp c = dpcp_closer_is_program

pub returns-clause-dflp : goal.returns-clause-dflp
returns-clause-dflp c = dflp_closer_is_program
