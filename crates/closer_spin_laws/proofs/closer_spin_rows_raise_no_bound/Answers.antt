use Rattle.closer_spin_laws.proofs.Sound.{spin_closer_fitting, spin_closer_no_greater}
use Rattle.closer_spin_laws.proofs.closer_spin_rows_raise_no_bound.Goals as goal

pub returns-clause-fitting : goal.returns-clause-fitting
returns-clause-fitting c = spin_closer_fitting

pub returns-clause-least : goal.returns-clause-least
returns-clause-least c = spin_closer_no_greater
