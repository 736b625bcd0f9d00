use Rattle.std.proofs.Common.{◌≡◌, length, sym, ◌∙◌, ap, arith}
use Rattle.program_form.specs.SparseRows.{SparseRowsDef}
use Rattle.program_form.proofs.RowCuts.{length_rows_cut}
use Rattle.program_form.proofs.sparse_rows.SparseRows.count.Goals as goal

pub returns : goal.returns
returns c =
    let long : length c.self.inside.starts.items ≡ length c.args.self.now.rows =
    sym (length_rows_cut c.self.inside.coefficients.items c.self.inside.starts.items)
    ∙ ap (λ (b : SparseRowsDef). length b.rows) c.self.view_is in
    omega (arith, long, c.len.ensures)
