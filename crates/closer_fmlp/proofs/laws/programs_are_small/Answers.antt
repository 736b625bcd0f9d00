use Rattle.closer_laws.proofs.Programs.{fmlp_closer_height}
use Rattle.closer_fmlp.proofs.FewColumns.{fmlp_closer_width}
use Rattle.closer_fmlp.proofs.laws.programs_are_small.Goals as goal

pub returns-clause-columns : goal.returns-clause-columns
returns-clause-columns c = fmlp_closer_width

pub returns-clause-rows : goal.returns-clause-rows
returns-clause-rows c = fmlp_closer_height
