use Rattle.exchange_runs.proofs.SevenRowsRun.{run_reads_so, ends_so, needs_so}
use Rattle.exchange_runs.proofs.laws.seven_rows_take_four_exchanges.Goals as goal

pub returns-clause-account : goal.returns-clause-account
returns-clause-account c = run_reads_so

pub returns-clause-end : goal.returns-clause-end
returns-clause-end c = ends_so

pub returns-clause-units : goal.returns-clause-units
returns-clause-units c = needs_so
