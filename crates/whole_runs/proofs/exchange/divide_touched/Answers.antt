use Rattle.std.proofs.Common.{arith}
use Rattle.whole_runs.specs.Exchanges.{IsTouched}
use Rattle.whole_runs.proofs.Taking.{touched_above, divided_one}
use Rattle.whole_runs.proofs.exchange.divide_touched.Goals as goal

pub enter-requires-clause-place : goal.enter-requires-clause-place
enter-requires-clause-place c =
    let touched : IsTouched c.args.program.now c.args.r c.args.row.now c.in-Some.row = rw c.in-Some.is at c.in_ok-touch.ensures in
    omega (arith, touched.as_many, c.requires.place)

pub enter-requires-clause-above : goal.enter-requires-clause-above
enter-requires-clause-above c =
    let touched : IsTouched c.args.program.now c.args.r c.args.row.now c.in-Some.row = rw c.in-Some.is at c.in_ok-touch.ensures in
    touched_above c.args.program.now c.args.r c.args.k c.args.row.now c.in-Some.row touched c.requires.above

pub unreachable-requires : goal.unreachable-requires
unreachable-requires c = rw c.in-None.is at c.in_ok-touch.ensures

pub returns : goal.returns
returns c =
    let touched : IsTouched c.args.program.now c.args.r c.args.row.now c.in-Some.row = rw c.in-Some.is at c.in_ok-touch.ensures in
    divided_one c.args.program.now c.args.r c.args.k c.read.new.self c.args.row.now c.in-Some.row c.enter.new.self touched
    c.in_ok-enter-in-Some.ensures c.in_ok-read-in-Some.ensures
