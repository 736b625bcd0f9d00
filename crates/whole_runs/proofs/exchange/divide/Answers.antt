use Rattle.std.proofs.Common.{◌∙◌, sym, ap, not}
use Rattle.std.proofs.lemmas.Result.{IfOk-weaker}
use Rattle.program_form.specs.Program.{columns, limit}
use Rattle.whole_rows.specs.Rows.{coefficient_row, IsPivotOf}
use Rattle.whole_runs.proofs.Starting.{coefficients_small}
use Rattle.whole_runs.proofs.Taking.{divided_untouched}
use Rattle.whole_runs.proofs.exchange.divide.Goals as goal

pub read_coefficients-requires-clause-small : goal.read_coefficients-requires-clause-small
read_coefficients-requires-clause-small c =
    let h = c.coefficients-coefficients.ensures in
    coefficients_small c.args.program.now c.args.r c.coefficients-coefficients.result.now h.program c.requires.within h.listed h.row

pub returns-then-coefficient_at-eq1 : goal.returns-then-coefficient_at-eq1
returns-then-coefficient_at-eq1 c =
    let p = c.args.program.now in
    let cs = c.coefficients-coefficients.result.now in
    let h = c.coefficients-coefficients.ensures in
    IfOk-weaker c.read_coefficients.result _ _
    (λ u read.
    let pivot_is : IsPivotOf c.read_coefficients.new.self (coefficient_row (columns p) cs (limit p c.args.r))
    = rw c.limit.ensures.value at (read (columns p) h.listed) in
    divided_untouched p c.args.r c.args.k c.args.row.now cs c.read_coefficients.new.self
    (c.is_none.ensures ∙ ap not c.if-is_none.true) h.program c.requires.within h.listed h.row
    (sym c.coefficient_at.ensures ∙ c.if-coefficient_at-eq1.true) pivot_is)
    c.read_coefficients.ensures
