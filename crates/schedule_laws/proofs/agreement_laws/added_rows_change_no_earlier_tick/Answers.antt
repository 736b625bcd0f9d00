use Rattle.schedule_laws.proofs.Agreement.{rows_agree, row_added, runs_agree, run_added}
use Rattle.schedule_laws.proofs.agreement_laws.added_rows_change_no_earlier_tick.Goals as goal

pub returns-clause-rows : goal.returns-clause-rows
returns-clause-rows c = rows_agree

pub returns-clause-row : goal.returns-clause-row
returns-clause-row c = row_added

pub returns-clause-runs : goal.returns-clause-runs
returns-clause-runs c = runs_agree

pub returns-clause-run : goal.returns-clause-run
returns-clause-run c = run_added
