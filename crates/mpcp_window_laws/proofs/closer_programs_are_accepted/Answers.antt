use Rattle.mpcp_window_laws.proofs.Programs.{mpcp_closer_is_program, mpcp_closer_rises}
use Rattle.mpcp_window_laws.proofs.closer_programs_are_accepted.Goals as goal

pub returns-clause-accepted : goal.returns-clause-accepted
returns-clause-accepted c = mpcp_closer_is_program

pub returns-clause-rises : goal.returns-clause-rises
returns-clause-rises c = mpcp_closer_rises
