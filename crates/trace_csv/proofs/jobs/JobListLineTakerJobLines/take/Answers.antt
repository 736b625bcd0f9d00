use Rattle.trace_csv.specs.Records.{fields_seen}
use Rattle.trace_csv.proofs.JobsTaken.{job_done}
use Rattle.trace_csv.proofs.jobs.JobListLineTakerJobLines.take.Goals as goal

pub returns : goal.returns
returns c = λ before has.
    job_done c.args.form.now.set.now c.args.form.now.has_arrivals before (fields_seen c.args.fields.now) c.args.line c.args.self.now
    c.take_line.new.jobs has c.take_line.result c.take_line.ensures
