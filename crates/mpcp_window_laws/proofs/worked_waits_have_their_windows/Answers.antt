use Rattle.mpcp_window_laws.proofs.WorkedWindows.{window_is_five, window_is_nine}
use Rattle.mpcp_window_laws.proofs.worked_waits_have_their_windows.Goals as goal

pub returns-clause-highest : goal.returns-clause-highest
returns-clause-highest c = window_is_five

pub returns-clause-lowest : goal.returns-clause-lowest
returns-clause-lowest c = window_is_nine
