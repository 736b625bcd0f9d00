use Rattle.busy_windows.proofs.Fewer.{less_interference}
use Rattle.busy_windows.proofs.busy_windows_have_no_more_interference.Goals as goal

pub returns : goal.returns
returns c = less_interference
