use Rattle.window_laws.proofs.MoreRows.{fitting_with_windows, no_greater}
use Rattle.window_laws.proofs.windows_raise_no_bound.Goals as goal

pub returns-clause-fitting : goal.returns-clause-fitting
returns-clause-fitting c = fitting_with_windows

pub returns-clause-least : goal.returns-clause-least
returns-clause-least c = no_greater
