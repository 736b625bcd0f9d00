use Rattle.std.proofs.Common.{length, ◌∙◌, ap}
use Rattle.std.proofs.lemmas.List.{length_push}
use Rattle.program_form.specs.SparseRows.{SparseRowsDef}
use Rattle.program_form.proofs.RowCuts.{rows_added, starts_added}
use Rattle.program_form.proofs.sparse_rows.SparseRows.add.Goals as goal

pub invariant_of-self-2 : goal.invariant_of-self-2
invariant_of-self-2 c =
    let old = c.self.inside.coefficients.items in
    rw (c.in_ok-push.ensures.items, length_push old c.args.coefficient) (starts_added (length old) c.self.inside.starts.items c.self.invariant)

pub returns-clause-row : goal.returns-clause-row
returns-clause-row c before last are =
    rw c.in_ok-push.ensures.items
    (rows_added c.self.inside.coefficients.items c.self.inside.starts.items c.args.coefficient before last c.self.invariant
    (ap (λ (b : SparseRowsDef). b.rows) c.self.view_is ∙ are))
