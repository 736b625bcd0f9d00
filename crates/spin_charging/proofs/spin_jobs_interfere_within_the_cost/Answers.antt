use Rattle.spin_charging.proofs.SpinPoints.{spin_interferes_within}
use Rattle.spin_charging.proofs.spin_jobs_interfere_within_the_cost.Goals as goal

pub returns : goal.returns
returns c = spin_interferes_within
