use Rattle.std.proofs.lemmas.Result.{err_from_is_err_and}
use Rattle.simplex.specs.RowView.{row_view}
use Rattle.simplex.proofs.Sparse.{divided_row, divided_stop, wide_limit}
use Rattle.simplex.proofs.row.SparseRow.quotient.Goals as goal

pub returns-in_err-limit : goal.returns-in_err-limit
returns-in_err-limit c =
    let stop = err_from_is_err_and c.from_residual.result c.from_residual.ensures.1 in
    rw (stop.1, stop.2, ← c.self.view_is) (wide_limit (row_view c.self.inside) c.args.by c.in_err-limit.ensures)

pub returns-in_err-entries : goal.returns-in_err-entries
returns-in_err-entries c =
    let stop = err_from_is_err_and c.from_residual-in_err-entries.result c.from_residual-in_err-entries.ensures.1 in
    let stopped = rw (c.deref.ensures.value) at c.in_err-entries.ensures in
    rw (stop.1, stop.2, ← c.self.view_is)
    (divided_stop c.in_err-entries.field-0.0 (row_view c.self.inside) c.args.by c.self.invariant stopped)

pub returns : goal.returns
returns c =
    let all = rw (c.deref.ensures.value) at c.in_ok-entries.ensures in
    rw (c.new.ensures, ← c.self.view_is)
    (divided_row (row_view c.self.inside) c.args.by c.in_ok-limit.limit c.in_ok-entries.entries.items c.self.invariant all
    c.in_ok-limit.ensures.0 c.in_ok-limit.ensures.1)
