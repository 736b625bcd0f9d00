use Rattle.window_laws.proofs.Programs.{windowed_is_program, windowed_rises}
use Rattle.window_laws.proofs.programs_with_windows_are_accepted.Goals as goal

pub returns-clause-accepted : goal.returns-clause-accepted
returns-clause-accepted c = windowed_is_program

pub returns-clause-rises : goal.returns-clause-rises
returns-clause-rises c = windowed_rises
