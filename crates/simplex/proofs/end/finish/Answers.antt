use Rattle.std.proofs.Common.{◌<◌, length, arith}
use Rattle.std.proofs.lemmas.Result.{err_from_is_err_and}
use Rattle.simplex.specs.Tables.{table_of}
use Rattle.program_form.specs.Program.{height}
use Rattle.simplex.proofs.Ending.{finish_stop, objective_read}
use Rattle.simplex.proofs.end.finish.Goals as goal

pub returns-in_err-dual : goal.returns-in_err-dual
returns-in_err-dual c =
    let stop = err_from_is_err_and c.from_residual.result c.from_residual.ensures.1 in
    let within : c.rows-objective.result < length c.args.rows.now =
    omega (arith, c.rows-objective.ensures.value, c.requires.size.row_each) in
    rw (stop.1, stop.2)
    (finish_stop c.in_err-dual.field-0.0 c.args.program.now (table_of c.args.rows.now c.args.basis.now) c.args.exchanges
    (c.in_err-dual.ensures (table_of c.args.rows.now c.args.basis.now)
    (objective_read c.args.rows.now c.args.basis.now (height c.args.program.now) c.rows-objective.result c.index-rows-objective-2.result
    c.rows-objective.ensures.value within c.index-rows-objective-2.is)))
