use Rattle.std.proofs.Common.{sym, ◌∙◌, FitsSigned, w64, rules}
use Rattle.whole_rows.proofs.Read.{read}
use Rattle.whole_rows.proofs.ShortRows.{listed_num}
use Rattle.whole_rows.proofs.short_row.ShortRow.num.Goals as goal

pub returns-clause-value : goal.returns-clause-value
returns-clause-value c =
    let fits : FitsSigned w64 c.listed_num.result = search rules in
    rw (read _ fits, ← c.self.view_is) ((rw c.deref.ensures.value at c.listed_num.ensures)
    ∙ sym (listed_num c.self.inside.places c.self.inside.entries.items c.self.inside.limit c.args.k c.self.invariant.below))
