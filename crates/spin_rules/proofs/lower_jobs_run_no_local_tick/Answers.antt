use Rattle.spin_rules.proofs.SpinFacts.{no_lower_local}
use Rattle.spin_rules.proofs.lower_jobs_run_no_local_tick.Goals as goal

pub returns : goal.returns
returns c = no_lower_local
