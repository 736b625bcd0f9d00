use Rattle.spin_charging.proofs.SpinPrograms.{spin_follows}
use Rattle.spin_charging.proofs.spin_limits_follow_jobs.Goals as goal

pub returns : goal.returns
returns c = spin_follows
