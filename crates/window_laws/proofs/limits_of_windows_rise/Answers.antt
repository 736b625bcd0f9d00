use Rattle.window_laws.proofs.Rising.{window_limit_rises}
use Rattle.window_laws.proofs.limits_of_windows_rise.Goals as goal

pub returns : goal.returns
returns c = window_limit_rises
