use Rattle.program_laws.proofs.FewRows.{height_at_most}
use Rattle.program_laws.proofs.rows_are_few.Goals as goal

pub returns : goal.returns
returns c = height_at_most
