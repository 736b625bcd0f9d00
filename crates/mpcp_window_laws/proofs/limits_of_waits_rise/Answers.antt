use Rattle.mpcp_window_laws.proofs.WaitLimits.{direct_wait_limit_rises, held_rises}
use Rattle.mpcp_window_laws.proofs.limits_of_waits_rise.Goals as goal

pub returns-clause-direct : goal.returns-clause-direct
returns-clause-direct c = direct_wait_limit_rises

pub returns-clause-holdings : goal.returns-clause-holdings
returns-clause-holdings c = held_rises
