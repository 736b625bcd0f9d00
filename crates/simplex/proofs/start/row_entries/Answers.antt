use Rattle.std.proofs.Common.{take_all, ◌∙◌, ap, arith}
use Rattle.simplex.proofs.Coefficients.{entries_of, coefficient_small, first_entries}
use Rattle.simplex.proofs.start.row_entries.Goals as goal

pub whole-requires : goal.whole-requires
whole-requires c =
    let coefficients = c.coefficients-coefficient-items in
    coefficient_small c.args.program.now c.args.i coefficients.result.now c.loop-coefficient.coefficient-index _
    coefficients.ensures.program coefficients.ensures.listed coefficients.ensures.row c.loop-coefficient-test.true

pub returns : goal.returns
returns c =
    let coefficients = c.coefficients-coefficient-items in
    let all = take_all c.loop-coefficient.coefficient-index coefficients.result.now (omega (arith, c.loop-coefficient-test.false)) in
    rw (c.loop-coefficient.invariant ∙ ap entries_of all)
    (first_entries c.args.program.now c.args.i coefficients.result.now
    coefficients.ensures.program c.requires coefficients.ensures.listed coefficients.ensures.row)
