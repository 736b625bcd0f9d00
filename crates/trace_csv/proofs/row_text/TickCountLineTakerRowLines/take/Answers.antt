use Rattle.std.proofs.Common.{arith}
use Rattle.trace_csv.specs.Records.{fields_seen}
use Rattle.trace_csv.specs.RowLines.{runs_written}
use Rattle.trace_csv.proofs.RowsTaken.{ticks_done}
use Rattle.trace_csv.proofs.row_text.TickCountLineTakerRowLines.take.Goals as goal

pub count_line-requires : goal.count_line-requires
count_line-requires c = omega (arith, c.requires.1.listed.most, c.requires.1.counted)

pub returns : goal.returns
returns c = λ before has.
    ticks_done c.args.form.now.jobs.now before (fields_seen c.args.fields.now) c.args.line c.args.self.now.ticks
    c.count_line.new.ticks c.count_line.result has
    (c.count_line.ensures (runs_written c.args.form.now.jobs.now before) has.counted)
