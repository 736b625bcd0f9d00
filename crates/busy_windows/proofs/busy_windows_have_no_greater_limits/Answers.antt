use Rattle.busy_windows.proofs.Fewer.{less_limit}
use Rattle.busy_windows.proofs.busy_windows_have_no_greater_limits.Goals as goal

pub returns : goal.returns
returns c = less_limit
