use Rattle.std.proofs.Common.{◌<◌, length, length-set, set, None, arith}
use Rattle.std.proofs.lemmas.List.{get_or_default}
use Rattle.std.proofs.lemmas.Result.{err_from_is_err_and}
use Rattle.whole_runs.specs.Large.{IsSomeTooLarge, AreTooLarge}
use Rattle.whole_runs.specs.Takings.{Divides, AreTakenTo}
use Rattle.whole_runs.specs.States.{row_at}
use Rattle.whole_runs.proofs.Causes.{stop_of}
use Rattle.whole_runs.proofs.Halting.{large_divided}
use Rattle.whole_runs.proofs.Taking.{exchanged_rows, places_divided, divided_below}
use Rattle.whole_runs.proofs.exchange.exchange.Goals as goal

pub divide-requires : goal.divide-requires
divide-requires c =
    let inside : c.args.r < length c.args.rows.now = omega (arith, c.requires.row, c.requires.row_each) in
    rw (get_or_default c.args.rows.now c.args.r c.index-rows-r.result None inside) (record {
      places = c.requires.places c.args.r inside;
      within = c.requires.row;
      place = c.requires.place;
      above = c.requires.above;
    })

pub take_all-requires : goal.take_all-requires
take_all-requires c =
    let inside : c.args.r < length c.args.rows.now = omega (arith, c.requires.row, c.requires.row_each) in
    let divides : Divides c.args.program.now c.args.r (row_at c.args.rows.now c.args.r) c.args.k c.divide.new.row c.divide.new.pivot
    = rw (get_or_default c.args.rows.now c.args.r c.index-rows-r.result None inside) at c.in_ok-divide.ensures in
    record {
      sparse = c.requires.column.sparse;
      within = λ j l. omega (arith, length-set c.args.rows.now c.args.r c.divide.new.row, c.requires.column.below j l);
      places = places_divided c.args.program.now c.args.rows.now c.args.k c.args.r c.divide.new.row c.divide.new.pivot divides
          c.requires.places;
      place = c.requires.place;
      below = divided_below c.args.program.now c.args.r (row_at c.args.rows.now c.args.r) c.args.k c.divide.new.row c.divide.new.pivot
          divides;
    }

pub returns-in_err-take_all : goal.returns-in_err-take_all
returns-in_err-take_all c =
    let p = c.args.program.now in
    let inside : c.args.r < length c.args.rows.now = omega (arith, c.requires.row, c.requires.row_each) in
    let divides : Divides c.args.program.now c.args.r (row_at c.args.rows.now c.args.r) c.args.k c.divide.new.row c.divide.new.pivot
    = rw (get_or_default c.args.rows.now c.args.r c.index-rows-r.result None inside) at c.in_ok-divide.ensures in
    let divided = set c.args.rows.now c.args.r c.divide.new.row in
    let stop = err_from_is_err_and c.from_residual-in_err-take_all.result c.from_residual-in_err-take_all.ensures.1 in
    rw (stop.1, stop.2)
    (stop_of c.in_err-take_all.field-0.0
    (λ (u : Unit {0}). AreTakenTo (length c.args.lines.now.column.items) p divided c.take_all.new.rows
    c.args.lines.now.column.items c.args.k c.args.r
    c.divide.new.pivot) _
    (IsSomeTooLarge p (set c.args.rows.now c.args.r c.divide.new.row) c.args.k c.args.r c.divide.new.pivot)
    (AreTooLarge p c.args.rows.now c.args.k c.args.r)
    (λ large. large_divided p c.args.rows.now c.args.k c.args.r c.divide.new.pivot c.divide.new.row divides large)
    c.in_err-take_all.ensures)

pub returns : goal.returns
returns c =
    let inside : c.args.r < length c.args.rows.now = omega (arith, c.requires.row, c.requires.row_each) in
    let divides : Divides c.args.program.now c.args.r (row_at c.args.rows.now c.args.r) c.args.k c.divide.new.row c.divide.new.pivot
    = rw (get_or_default c.args.rows.now c.args.r c.index-rows-r.result None inside) at c.in_ok-divide.ensures in
    exchanged_rows c.args.program.now c.args.rows.now c.take_all.new.rows c.args.lines.now.column.items c.args.k c.args.r c.divide.new.pivot
    c.divide.new.row inside c.requires.places c.requires.small c.requires.column divides c.in_ok-take_all.ensures
