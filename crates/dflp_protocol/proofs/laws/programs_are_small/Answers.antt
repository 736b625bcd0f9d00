use Rattle.dflp_protocol.proofs.FewRows.{dflp_height, dflp_width}
use Rattle.dflp_protocol.proofs.laws.programs_are_small.Goals as goal

pub returns-clause-columns : goal.returns-clause-columns
returns-clause-columns c = dflp_width

pub returns-clause-rows : goal.returns-clause-rows
returns-clause-rows c = dflp_height
