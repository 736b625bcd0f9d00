use Rattle.closer_laws.proofs.Programs.{fmlp_closer_height}
use Rattle.closer_laws.proofs.closer_rows_are_few.Goals as goal

pub returns : goal.returns
returns c = fmlp_closer_height
