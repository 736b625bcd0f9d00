use Rattle.std.proofs.Common.{arith}
use Rattle.std.proofs.lemmas.Result.{err_from_is_err_and}
use Rattle.simplex.proofs.Listed.{entry_read}
use Rattle.simplex.proofs.Dividing.{divided_more, divided_whole, wide_divided}
use Rattle.simplex.proofs.entries.divide_all.Goals as goal

pub returns-in_err-value : goal.returns-in_err-value
returns-in_err-value c =
    let stop = err_from_is_err_and c.from_residual.result c.from_residual.ensures.1 in
    let read = entry_read c.args.entries.now c.loop-entry.entry-index c.entry-item.result c.loop-entry-test.true c.entry-item.is in
    rw (stop.1, stop.2)
    (wide_divided c.loop-entry.entry-index c.args.entries.now c.args.by c.entry-item.result c.requires.sparse c.loop-entry-test.true
    read c.in_err-value.ensures)

pub loop-entry-preserved : goal.loop-entry-preserved
loop-entry-preserved c =
    let read = entry_read c.args.entries.now c.loop-entry.entry-index c.entry-item.result c.loop-entry-test.true c.entry-item.is in
    rw c.in_ok-push.ensures.items
    (divided_more c.loop-entry.entry-index c.args.entries.now c.loop-entry.divided.items c.args.by c.in_ok-value.value c.entry-item.result
    c.loop-entry.invariant read c.in_ok-value.ensures.0 c.in_ok-value.ensures.1)

pub returns : goal.returns
returns c =
    divided_whole c.loop-entry.entry-index c.args.entries.now c.loop-entry.divided.items c.args.by (omega (arith, c.loop-entry-test.false))
    c.requires.sparse c.requires.divisor.form c.loop-entry.invariant
