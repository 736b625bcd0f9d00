use Rattle.std.proofs.Common.{refl}
use Rattle.dflp_laws.proofs.two_tasks_make_four_rows_each.Goals as goal

pub returns-clause-higher : goal.returns-clause-higher
returns-clause-higher c = refl

pub returns-clause-lower : goal.returns-clause-lower
returns-clause-lower c = refl
