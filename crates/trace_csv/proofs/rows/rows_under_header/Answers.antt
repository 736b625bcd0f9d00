use Rattle.std.proofs.Common.{subst, sym}
use Rattle.trace_csv.specs.RowsFile.{RecordsRead}
use Rattle.trace_csv.proofs.Headers.{under_rows, header_refused}
use Rattle.trace_csv.proofs.rows.rows_under_header.Goals as goal

pub returns-in-Ok : goal.returns-in-Ok
returns-in-Ok c =
    subst (RecordsRead c.rows_of.result c.args.jobs.now) (sym c.in-Ok.ensures)
    (under_rows c.rows_of.result c.args.jobs.now c.take_header.new.records c.rows_of.ensures)

pub returns-in-Err : goal.returns-in-Err
returns-in-Err c = header_refused c.in-Err.refusal c.args.jobs.now c.args.records c.take_header.new.records c.in-Err.ensures
