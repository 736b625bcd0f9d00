use Rattle.trace_csv.proofs.RowsTaken.{rows_refused}
use Rattle.trace_csv.proofs.rows.rows_of.Goals as goal

pub returns-in-Err : goal.returns-in-Err
returns-in-Err c = rows_refused c.args.jobs.now c.args.lines c.in-Err.refusal c.in-Err.ensures
