use Rattle.std.proofs.Common.{refl}
use Rattle.std.proofs.lemmas.Result.{err_from_is_err_and}
use Rattle.simplex.specs.Rows.{RowDef}
use Rattle.simplex.proofs.Taking.{still, takes_stop, taken_more, taken_same, taken_past}
use Rattle.simplex.proofs.exchange.take_all.Goals as goal
use Rattle.simplex.proofs.exchange.take_all.Goals.{then-i-r+then-not-is_zero+in_ok-left, else-i-r}
use Rattle.simplex.proofs.exchange.take_all.Goals.{else-i-r-via-then-i-r+else-not-is_zero, else-i-r-via-else-i-r}

pub difference-requires : goal.difference-requires
difference-requires c =
    rw (still c.loop-i.i c.args.rows.now c.loop-i.rows c.args.e c.args.r c.args.pivot.now c.index-rows-i-then-not-is_zero.result
    c.loop-i.invariant c.loop-i-test.true)
    (c.requires c.loop-i.i c.loop-i-test.true c.if-i-r.true)

pub returns-in_err-left : goal.returns-in_err-left
returns-in_err-left c =
    let stop = err_from_is_err_and c.from_residual.result c.from_residual.ensures.1 in
    let i = c.loop-i.i in
    let before = c.args.rows.now in
    let was = λ (x : RowDef). still i before c.loop-i.rows c.args.e c.args.r c.args.pivot.now x c.loop-i.invariant c.loop-i-test.true in
    rw (stop.1, stop.2)
    (takes_stop i before c.loop-i.rows c.args.e c.args.r c.args.pivot.now c.cell-cell.result c.loop-i.invariant c.loop-i-test.true
    (rw (was c.index-rows-i.result) at c.cell-cell.ensures.value) c.in_err-left.field-0.0 c.if-i-r.true
    (rw (was c.index-rows-i-then-not-is_zero.result) at c.in_err-left.ensures))

pub loop-i-preserved : goal.loop-i-preserved
loop-i-preserved c =
    let i = c.loop-i.i in
    let before = c.args.rows.now in
    let inv = c.loop-i.invariant in
    let was = λ (x : RowDef). still i before c.loop-i.rows c.args.e c.args.r c.args.pivot.now x inv c.loop-i-test.true in
    let cell = rw (was c.index-rows-i.result) at c.cell-cell.ensures.value in
    elim c.if-i-r.branch [
      | then-i-r+then-not-is_zero+in_ok-left w ↦
          rw w.rows-is
          (taken_more i before c.loop-i.rows c.args.e c.args.r c.args.pivot.now c.cell-cell.result inv c.loop-i-test.true cell
          w.in_ok-left.left (rw (was w.index-rows-i-then-not-is_zero.result) at w.in_ok-left.ensures))
      | else-i-r w ↦
          rw w.rows-is
          (elim w.else-i-r.branch [
            | else-i-r-via-then-i-r+else-not-is_zero w' ↦
                taken_same i before c.loop-i.rows c.args.e c.args.r c.args.pivot.now c.cell-cell.result inv c.loop-i-test.true cell
                (rw (was c.index-rows-i.result) at c.cell-cell.ensures.forms) (w'.if-not-is_zero.ensures.0 refl)
            | else-i-r-via-else-i-r w' ↦ taken_past i before c.loop-i.rows c.args.e c.args.r c.args.pivot.now w'.if-i-r.false inv
          ])
    ]
