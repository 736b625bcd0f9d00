use Rattle.std.proofs.Common.{◌≡◌, ◌∙◌, ℕ, ◌+◌, ◌*◌, List, length, min, slice_index, ap}
use Rattle.number_laws.specs.Sums.{sum_below}
use Rattle.program_form.specs.Program.{ProgramDef, columns, entry, limit}
use Rattle.refusal_confirm.proofs.Capped.{kept}
use Rattle.refusal_confirm.proofs.RowSums.{row_sum_is}
use Rattle.refusal_confirm.proofs.sums.keeps_row.Goals as goal

pub returns : goal.returns
returns c =
    let p : ProgramDef = c.args.program.now in
    let num : List ℕ = c.args.point.now.num.items in
    let whole : ℕ = sum_below (columns p) (λ k. entry p c.args.row k * slice_index num k) in
    let all = row_sum_is p c.args.row (length num) (slice_index num) c.coefficients.result.now c.requires.size c.coefficients.ensures.row in
    let sum : c.row_sum.result ≡ min (c.product-due.result + 1) whole =
    rw (c.deref.ensures.value) at c.row_sum.ensures ∙ ap (min (c.product-due.result + 1)) all in
    let due : c.product-due.result ≡ c.args.point.now.den * limit p c.args.row =
    c.product-due.ensures.value ∙ ap (λ n. c.args.point.now.den * n) c.limit.ensures.value in
    kept c.row_sum.result c.product-due.result (c.args.point.now.den * limit p c.args.row) whole sum due
