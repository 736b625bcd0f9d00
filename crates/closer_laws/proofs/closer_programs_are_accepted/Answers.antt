use Rattle.closer_laws.proofs.Programs.{fmlp_closer_is_program, fmlp_closer_rises, fmlp_closer_follows}
use Rattle.closer_laws.proofs.closer_programs_are_accepted.Goals as goal

pub returns-clause-accepted : goal.returns-clause-accepted
returns-clause-accepted c = fmlp_closer_is_program

pub returns-clause-rises : goal.returns-clause-rises
returns-clause-rises c = fmlp_closer_rises

pub returns-clause-follows : goal.returns-clause-follows
returns-clause-follows c = fmlp_closer_follows
