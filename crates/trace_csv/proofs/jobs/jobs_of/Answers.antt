use Rattle.trace_csv.proofs.JobsTaken.{jobs_read, jobs_refused}
use Rattle.trace_csv.proofs.jobs.jobs_of.Goals as goal

pub returns-in-Ok : goal.returns-in-Ok
returns-in-Ok c = jobs_read c.args.set.now c.args.has_arrivals c.args.lines c.take_lines.new.taker c.in-Ok.ensures

pub returns : goal.returns
returns c = jobs_refused c.args.set.now c.args.has_arrivals c.args.lines c.in-Err.refusal c.in-Err.ensures
