use Rattle.mpcp_window_laws.proofs.Sound.{mpcp_closer_fitting, mpcp_closer_no_greater}
use Rattle.mpcp_window_laws.proofs.closer_rows_raise_no_bound.Goals as goal

pub returns-clause-fitting : goal.returns-clause-fitting
returns-clause-fitting c = mpcp_closer_fitting

pub returns-clause-least : goal.returns-clause-least
returns-clause-least c = mpcp_closer_no_greater
