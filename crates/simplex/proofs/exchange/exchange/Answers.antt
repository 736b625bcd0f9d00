use Rattle.std.proofs.Common.{◌≡◌}
use Rattle.std.proofs.lemmas.Result.{err_from_is_err_and}
use Rattle.simplex.specs.Rows.{cell_at}
use Rattle.simplex.specs.Tables.{row_of}
use Rattle.simplex.proofs.Cells.{row_same}
use Rattle.simplex.proofs.Taking.{divided_stop, taken_stop, exchanged}
use Rattle.simplex.proofs.exchange.exchange.Goals as goal

pub returns-in_err-pivot : goal.returns-in_err-pivot
returns-in_err-pivot c =
    let stop = err_from_is_err_and c.from_residual.result c.from_residual.ensures.1 in
    let rows = c.args.rows.now in
    let cell : c.cell-cell.result ≡ cell_at (row_of c.args.rows.now c.args.r) c.args.e
    = rw (row_same rows c.args.r c.index-rows-r.result c.requires.row) c.cell-cell.ensures.value in
    rw (stop.1, stop.2)
    (divided_stop c.in_err-pivot.field-0.0 rows rows c.args.e c.args.r
    (rw (← cell, row_same rows c.args.r c.index-rows-r-2.result c.requires.row) c.in_err-pivot.ensures))

pub returns-in_err-take_all : goal.returns-in_err-take_all
returns-in_err-take_all c =
    let stop = err_from_is_err_and c.from_residual-in_err-take_all.result c.from_residual-in_err-take_all.ensures.1 in
    let rows = c.args.rows.now in
    let cell : c.cell-cell.result ≡ cell_at (row_of c.args.rows.now c.args.r) c.args.e
    = rw (row_same rows c.args.r c.index-rows-r.result c.requires.row) c.cell-cell.ensures.value in
    rw (stop.1, stop.2)
    (taken_stop c.in_err-take_all.field-0.0 rows c.take_all.new.rows c.args.e c.args.r c.in_ok-pivot.pivot
    (rw (← cell, row_same rows c.args.r c.index-rows-r-2.result c.requires.row) c.in_ok-pivot.ensures) c.in_err-take_all.ensures)

pub returns : goal.returns
returns c =
    let rows = c.args.rows.now in
    let cell : c.cell-cell.result ≡ cell_at (row_of c.args.rows.now c.args.r) c.args.e
    = rw (row_same rows c.args.r c.index-rows-r.result c.requires.row) c.cell-cell.ensures.value in
    exchanged rows c.take_all.new.rows c.args.e c.args.r c.in_ok-pivot.pivot c.requires.row
    (rw (← cell, row_same rows c.args.r c.index-rows-r-2.result c.requires.row) c.in_ok-pivot.ensures) c.in_ok-take_all.ensures
