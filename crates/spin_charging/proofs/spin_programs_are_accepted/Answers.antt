use Rattle.spin_charging.proofs.SpinPrograms.{spin_is_program, spin_covered, spin_rises}
use Rattle.spin_charging.proofs.spin_programs_are_accepted.Goals as goal

pub returns-clause-program : goal.returns-clause-program
returns-clause-program c = spin_is_program

pub returns-clause-covered : goal.returns-clause-covered
returns-clause-covered c = spin_covered

pub returns-clause-rises : goal.returns-clause-rises
returns-clause-rises c = spin_rises
