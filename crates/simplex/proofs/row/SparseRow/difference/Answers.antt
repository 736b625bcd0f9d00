use Rattle.simplex.specs.RowView.{row_view}
use Rattle.std.proofs.lemmas.Result.{err_from_is_err_and}
use Rattle.simplex.proofs.Sparse.{left_limit_stop, left_stop}
use Rattle.simplex.proofs.row.SparseRow.difference.Goals as goal

pub returns-in_err-limit : goal.returns-in_err-limit
returns-in_err-limit c =
    let stop = err_from_is_err_and c.from_residual.result c.from_residual.ensures.1 in
    let even = rw (← c.self.view_is, ← c.pivot.view_is) at c.requires in
    rw (stop.1, stop.2, ← c.self.view_is, ← c.pivot.view_is)
    (left_limit_stop (row_view c.self.inside) (row_view c.pivot.inside) c.args.f even c.in_err-limit.ensures)

pub returns-in_err-entries : goal.returns-in_err-entries
returns-in_err-entries c =
    let stop = err_from_is_err_and c.from_residual-in_err-entries.result c.from_residual-in_err-entries.ensures.1 in
    let even = rw (← c.self.view_is, ← c.pivot.view_is) at c.requires in
    let stopped = rw (c.deref.ensures.value, c.deref-2.ensures.value) at c.in_err-entries.ensures in
    rw (stop.1, stop.2, ← c.self.view_is, ← c.pivot.view_is)
    (left_stop c.in_err-entries.field-0.0 (row_view c.self.inside) (row_view c.pivot.inside) c.args.f even stopped)
