use Rattle.std.proofs.Common.{sym, ◌∙◌, arith}
use Rattle.std.proofs.lemmas.Result.{err_from_is_err_and}
use Rattle.simplex.specs.Tables.{table_of}
use Rattle.exchange_runs.proofs.Bounded.{has_ratio}
use Rattle.simplex.proofs.Stepping.{step_stop, step_done, pivot_apart}
use Rattle.simplex.proofs.exchange.step.Goals as goal

pub unreachable-requires : goal.unreachable-requires
unreachable-requires c =
    let none = rw c.in-Ok-None.field-0-is at c.in-Ok-None.ensures in
    let some = has_ratio c.args.program.now c.requires.reached.0 (table_of c.args.rows.now c.args.basis.now) c.args.e
    c.rows.ensures.program c.requires.reached.1 c.requires.enters.within in
    none some.0 (omega (arith, some.1, c.requires.size.basic_each)) some.2

pub exchange-requires : goal.exchange-requires
exchange-requires c =
    let chosen = rw c.in-Ok-Some.field-0-is at c.in-Ok-Some.ensures in
    let size = c.requires.size in
    record {
      row = omega (arith, chosen.within, size.basic_each, size.row_each);
      even = λ i l.
          size.fits i (omega (arith, l, size.row_each)) ∙ sym (size.fits c.in-Ok-Some.r (omega (arith, chosen.within, size.basic_each)));
      pivot = pivot_apart (table_of c.args.rows.now c.args.basis.now) c.args.e c.in-Ok-Some.r chosen.has;
    }

pub returns-in_err-exchange : goal.returns-in_err-exchange
returns-in_err-exchange c =
    let stop = err_from_is_err_and c.from_residual.result c.from_residual.ensures.1 in
    let chosen = rw c.in-Ok-Some.field-0-is at c.in-Ok-Some.ensures in
    let least = rw (c.columns.ensures.value, c.rows.ensures.value, c.requires.size.basic_each) at chosen in
    rw (stop.1, stop.2)
    (step_stop c.in_err-exchange.field-0.0 c.args.program.now c.args.e c.in-Ok-Some.r c.args.rows.now c.args.basis.now
    c.exchange.new.rows c.args.basis.now c.requires.size (record { ratio = c.in-Ok-Some.field-0-0-1; least = least })
    c.in_err-exchange.ensures)

pub returns : goal.returns
returns c =
    let chosen = rw c.in-Ok-Some.field-0-is at c.in-Ok-Some.ensures in
    let least = rw (c.columns.ensures.value, c.rows.ensures.value, c.requires.size.basic_each) at chosen in
    step_done c.args.program.now c.args.e c.in-Ok-Some.r c.args.rows.now c.exchange.new.rows c.args.basis.now
    c.requires.size c.requires.enters (record { ratio = c.in-Ok-Some.field-0-0-1; least = least }) c.in_ok-exchange.ensures
