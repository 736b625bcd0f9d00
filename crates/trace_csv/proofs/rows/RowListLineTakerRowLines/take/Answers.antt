use Rattle.std.proofs.Common.{sym, ap, ◌∙◌}
use Rattle.schedule_model.specs.Fitting.{RowsDef}
use Rattle.trace_csv.specs.Records.{fields_seen}
use Rattle.trace_csv.specs.RowsFile.{rows_with}
use Rattle.trace_csv.proofs.RowsTaken.{row_done}
use Rattle.trace_csv.proofs.rows.RowListLineTakerRowLines.take.Goals as goal

pub take_line-requires : goal.take_line-requires
take_line-requires c =
    let made = c.requires.1 in
    made ∙ ap (λ (rows : RowsDef). rows_with c.args.form.now.jobs.now rows.runs) (sym made)

pub returns : goal.returns
returns c = λ before has.
    row_done c.args.form.now.jobs.now before (fields_seen c.args.fields.now) c.args.line c.args.self.now c.take_line.new.rows has
    c.take_line.result c.take_line.ensures
