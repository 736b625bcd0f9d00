use Rattle.std.proofs.Common.{[], ◌+◌, arith}
use Rattle.std.proofs.lemmas.Result.{err_from_is_err_and}
use Rattle.simplex.proofs.Merging.{taken_none, taken_up, taken_pushed, taken_whole}
use Rattle.simplex.proofs.entries.take_away.Goals as goal

pub loop-v-init : goal.loop-v-init
loop-v-init c =
    let entries = c.args.entries.now in
    let pivot = c.args.pivot.now in
    rw (c.new-left.ensures.items, c.min-v.ensures)
    (taken_up entries pivot [] c.args.f c.args.end 0 0 0
    c.requires.row.sparse c.requires.pivot.sparse c.requires.row.below c.requires.pivot.below
    (taken_none entries pivot c.args.f c.args.end) c.variable_behind.result c.variable_behind-2.result
    c.variable_behind.ensures c.variable_behind-2.ensures)

pub returns-in_err-rest : goal.returns-in_err-rest
returns-in_err-rest c =
    let stop = err_from_is_err_and c.from_residual.result c.from_residual.ensures.1 in
    rw (stop.1, stop.2)
    (c.loop-v.v, c.loop-v-test.true, rw (c.value_behind-cell.ensures.value, c.value_behind.ensures.value) at c.in_err-rest.ensures)

pub loop-v-preserved : goal.loop-v-preserved
loop-v-preserved c =
    let entries = c.args.entries.now in
    let pivot = c.args.pivot.now in
    let i = c.count_through-i.result in
    let j = c.count_through-j.result in
    let left = c.push_cell.new.list.items in
    let taken = taken_pushed entries pivot c.loop-v.left.items c.args.f c.args.end c.loop-v.i c.loop-v.j c.loop-v.v
    c.requires.row.sparse c.requires.pivot.sparse c.requires.row.below c.requires.pivot.below c.loop-v.invariant
    left c.in_ok-rest.rest i j c.loop-v-test.true c.count_through-i.ensures c.count_through-j.ensures
    (rw (c.value_behind-cell.ensures.value, c.value_behind.ensures.value) at c.in_ok-rest.ensures) c.in_ok-push_cell.ensures in
    rw c.min-v-in-loop-v.ensures
    (taken_up entries pivot left c.args.f c.args.end i j (c.loop-v.v + 1)
    c.requires.row.sparse c.requires.pivot.sparse c.requires.row.below c.requires.pivot.below taken
    c.variable_behind-in-loop-v.result c.variable_behind-in-loop-v-2.result
    c.variable_behind-in-loop-v.ensures c.variable_behind-in-loop-v-2.ensures)

pub returns : goal.returns
returns c =
    taken_whole c.args.entries.now c.args.pivot.now c.loop-v.left.items c.args.f c.args.end c.loop-v.i c.loop-v.j c.loop-v.v
    c.requires.row.sparse c.requires.pivot.sparse c.requires.row.below c.requires.pivot.below c.loop-v.invariant
    (omega (arith, c.loop-v-test.false))
