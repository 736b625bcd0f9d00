use Rattle.named_laws.proofs.EachName.{named_above, named_no_columns}
use Rattle.named_laws.proofs.laws.programs_rise.Goals as goal

pub returns-clause-above : goal.returns-clause-above
returns-clause-above c = named_above

pub returns-clause-none : goal.returns-clause-none
returns-clause-none c = named_no_columns
