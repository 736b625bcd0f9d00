use Rattle.program_laws.proofs.GivenPrograms.{is_program}
use Rattle.program_laws.proofs.written_rows_are_accepted.Goals as goal

pub returns : goal.returns
returns c = is_program
