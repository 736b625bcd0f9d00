use Rattle.clock_laws.proofs.Formed.{formed_in_cycles}
use Rattle.clock_laws.proofs.Columns.{columns_scaled}
use Rattle.clock_laws.proofs.sets_keep_their_form.Goals as goal

pub returns-clause-formed : goal.returns-clause-formed
returns-clause-formed c = formed_in_cycles

pub returns-clause-columns : goal.returns-clause-columns
returns-clause-columns c = columns_scaled
