use Rattle.std.proofs.lemmas.Result.{err_from_is_err_and}
use Rattle.trace_csv.specs.Records.{fields_seen}
use Rattle.trace_csv.specs.JobLines.{completed}
use Rattle.trace_csv.proofs.JobsTaken.{refused_as_read}
use Rattle.trace_csv.proofs.jobs.take_line.Goals as goal

pub returns-in_err-job : goal.returns-in_err-job
returns-in_err-job c =
    let stop = err_from_is_err_and c.from_residual.result c.from_residual.ensures.1 in
    let line = completed c.args.has_arrivals (fields_seen c.args.fields.now) in
    rw (stop.1, stop.2)
    (refused_as_read c.in_err-job.field-0.0 c.args.jobs.now c.args.jobs.now line c.args.line (rw c.set.ensures at c.in_err-job.ensures))
