use Rattle.spin_rules.proofs.SpinFacts.{holder_runs}
use Rattle.spin_rules.proofs.holders_run.Goals as goal

pub returns : goal.returns
returns c = holder_runs
