use Rattle.closer_spin_laws.proofs.FewRows.{spin_closer_height}
use Rattle.closer_spin_laws.proofs.closer_spin_rows_are_few.Goals as goal

pub returns : goal.returns
returns c = spin_closer_height
