use Rattle.program_laws.proofs.WrittenPrograms.{written_program}
use Rattle.program_laws.proofs.written_programs_are_accepted.Goals as goal

pub returns : goal.returns
returns c = written_program
