use Rattle.trace_csv.specs.RowLines.{runs_written}
use Rattle.trace_csv.proofs.RowsTaken.{long_refused}
use Rattle.trace_csv.proofs.rows.RowLinesLineForm.too_long.Goals as goal

pub returns : goal.returns
returns c = λ before fields more.
    long_refused c.args.self.now.jobs.now (runs_written c.args.self.now.jobs.now before) fields c.args.line more
