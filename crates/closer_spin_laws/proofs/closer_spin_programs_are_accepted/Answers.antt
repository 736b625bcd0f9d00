use Rattle.closer_spin_laws.proofs.Programs.{spin_closer_is_program, spin_closer_rises, spin_closer_follows}
use Rattle.closer_spin_laws.proofs.closer_spin_programs_are_accepted.Goals as goal

pub returns-clause-accepted : goal.returns-clause-accepted
returns-clause-accepted c = spin_closer_is_program

pub returns-clause-rises : goal.returns-clause-rises
returns-clause-rises c = spin_closer_rises

pub returns-clause-follows : goal.returns-clause-follows
returns-clause-follows c = spin_closer_follows
