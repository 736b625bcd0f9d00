use Rattle.std.proofs.Common.{◌∙◌, sym}
use Rattle.simplex.specs.RowView.{row_view}
use Rattle.simplex.proofs.Sparse.{cell_limit, cell_listed, forms_of}
use Rattle.simplex.proofs.row.SparseRow.cell.Goals as goal

pub returns-then-self-v : goal.returns-then-self-v
returns-then-self-v c = rw (← c.self.view_is) (record {
  value = sym (cell_limit (row_view c.self.inside) c.args.v c.if-self-v.true);
  forms = forms_of (row_view c.self.inside) c.self.invariant;
})

pub returns : goal.returns
returns c = rw (← c.self.view_is) (record {
  value = (rw c.deref.ensures.value at c.value_at.ensures.value) ∙ sym (cell_listed (row_view c.self.inside) c.args.v c.if-self-v.false);
  forms = forms_of (row_view c.self.inside) c.self.invariant;
})
