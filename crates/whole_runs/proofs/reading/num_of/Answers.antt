use Rattle.std.proofs.Common.{◌∙◌}
use Rattle.program_form.specs.Program.{entry}
use Rattle.whole_runs.proofs.RowNumbers.{row_read, coefficient_is, entry_small, signed_is, signed_small, signed_fits}
use Rattle.whole_runs.proofs.reading.num_of.Goals as goal

pub overflow_cast-result : goal.overflow_cast-result
overflow_cast-result c =
    let p = c.args.program.now in
    signed_fits c.coefficient_at.result (entry p c.args.i c.args.k)
    (c.coefficient_at.ensures ∙ coefficient_is p c.args.i c.coefficients.result.now c.args.k c.requires.place c.coefficients.ensures.row)
    (entry_small p c.args.i c.args.k c.coefficients.ensures.program)

pub returns-in-None : goal.returns-in-None
returns-in-None c =
    let p = c.args.program.now in
    let is =
    c.coefficient_at.ensures ∙ coefficient_is p c.args.i c.coefficients.result.now c.args.k c.requires.place c.coefficients.ensures.row in
    let small = entry_small p c.args.i c.args.k c.coefficients.ensures.program in
    record {
      value = rw (row_read c.args.rows.now c.args.i c.index-rows-i.result c.requires.row c.index-rows-i.is, c.in-None.is)
          (signed_is c.coefficient_at.result (entry p c.args.i c.args.k) is small);
      small = signed_small c.coefficient_at.result (entry p c.args.i c.args.k) is small;
    }
