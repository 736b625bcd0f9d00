use Rattle.std.proofs.Common.{map}
use Rattle.trace_csv.specs.JobLines.{completed, jobs_written}
use Rattle.trace_csv.proofs.JobsTaken.{long_refused}
use Rattle.trace_csv.proofs.jobs.JobLinesLineForm.too_long.Goals as goal

pub returns : goal.returns
returns c = λ before fields more.
    long_refused (jobs_written c.args.self.now.set.now (map (completed c.args.self.now.has_arrivals) before)) c.args.self.now.has_arrivals
    fields c.args.line more
