use Rattle.spin_protocol.proofs.FewRows.{spin_height, spin_width}
use Rattle.spin_protocol.proofs.laws.programs_are_small.Goals as goal

pub returns-clause-columns : goal.returns-clause-columns
returns-clause-columns c = spin_width

pub returns-clause-rows : goal.returns-clause-rows
returns-clause-rows c = spin_height
