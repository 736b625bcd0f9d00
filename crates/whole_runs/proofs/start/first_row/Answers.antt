use Rattle.std.proofs.Common.{◌≡◌}
use Rattle.std.proofs.lemmas.Result.{IfOk-weaker}
use Rattle.program_form.specs.Program.{columns, limit}
use Rattle.whole_rows.specs.Rows.{coefficient_row}
use Rattle.whole_runs.proofs.Starting.{coefficients_small, coefficient_row_is}
use Rattle.whole_runs.proofs.start.first_row.Goals as goal

pub of_coefficients-requires-clause-small : goal.of_coefficients-requires-clause-small
of_coefficients-requires-clause-small c =
    let h = c.coefficients.ensures in
    coefficients_small c.args.program.now c.args.i c.coefficients.result.now h.program c.requires h.listed h.row

pub returns : goal.returns
returns c =
    let h = c.coefficients.ensures in
    IfOk-weaker c.of_coefficients.result _ _
    (λ row is.
    let own : row ≡ coefficient_row (columns c.args.program.now) c.coefficients.result.now (limit c.args.program.now c.args.i) =
    rw (c.columns.ensures.value, c.limit.ensures.value) at is in
    rw own
    (coefficient_row_is c.args.program.now c.args.i c.coefficients.result.now h.program c.requires h.listed h.row))
    c.of_coefficients.ensures
