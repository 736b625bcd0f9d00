use Rattle.exchange_runs.proofs.SmallRuns.{small_run, entering_lowest, last_lowest}
use Rattle.exchange_runs.proofs.small_laws.small_runs_are_runs.Goals as goal

pub returns-clause-run : goal.returns-clause-run
returns-clause-run c = small_run

pub returns-clause-entering : goal.returns-clause-entering
returns-clause-entering c = entering_lowest

pub returns-clause-last : goal.returns-clause-last
returns-clause-last c = last_lowest
