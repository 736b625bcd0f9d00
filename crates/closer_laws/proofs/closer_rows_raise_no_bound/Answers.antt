use Rattle.closer_laws.proofs.Sound.{fmlp_closer_fitting, fmlp_closer_no_greater}
use Rattle.closer_laws.proofs.closer_rows_raise_no_bound.Goals as goal

pub returns-clause-fitting : goal.returns-clause-fitting
returns-clause-fitting c = fmlp_closer_fitting

pub returns-clause-least : goal.returns-clause-least
returns-clause-least c = fmlp_closer_no_greater
