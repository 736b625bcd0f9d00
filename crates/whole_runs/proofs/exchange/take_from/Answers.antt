use Rattle.std.proofs.Common.{Err, ap, arith}
use Rattle.std.proofs.lemmas.Result.{err_from_is_err_and}
use Rattle.whole_runs.specs.Exchanges.{IsTouched}
use Rattle.whole_runs.proofs.Taking.{taken_one, halts_for}
use Rattle.whole_runs.proofs.exchange.take_from.Goals as goal

pub take-requires-clause-place : goal.take-requires-clause-place
take-requires-clause-place c =
    let touched : IsTouched c.args.program.now c.args.i c.args.row.now c.in-Some.row = rw c.in-Some.is at c.in_ok-touch.ensures in
    omega (arith, touched.as_many, c.requires.place)

pub take-requires-clause-below : goal.take-requires-clause-below
take-requires-clause-below c j l =
    let touched : IsTouched c.args.program.now c.args.i c.args.row.now c.in-Some.row = rw c.in-Some.is at c.in_ok-touch.ensures in
    omega (arith, touched.as_many, c.requires.below j l)

pub unreachable-requires : goal.unreachable-requires
unreachable-requires c = rw c.in-None.is at c.in_ok-touch.ensures

pub returns-in_err-take-in-Some : goal.returns-in_err-take-in-Some
returns-in_err-take-in-Some c =
    let touched : IsTouched c.args.program.now c.args.i c.args.row.now c.in-Some.row = rw c.in-Some.is at c.in_ok-touch.ensures in
    let stop = err_from_is_err_and c.from_residual-in_err-take-in-Some.result c.from_residual-in_err-take-in-Some.ensures.1 in
    rw (stop.1, stop.2) (halts_for c.in_err-take-in-Some.field-0.0 _ _ (λ is.
    record { row = c.in-Some.row; touched = touched; large = c.in_err-take-in-Some.ensures.large (ap Err is) }))

pub returns : goal.returns
returns c =
    let touched : IsTouched c.args.program.now c.args.i c.args.row.now c.in-Some.row = rw c.in-Some.is at c.in_ok-touch.ensures in
    taken_one c.args.program.now c.args.i c.args.k c.args.pivot.now c.args.row.now c.in-Some.row c.take.new.self touched
    (λ divided is. c.in_ok-take-in-Some.ensures.left divided is)
