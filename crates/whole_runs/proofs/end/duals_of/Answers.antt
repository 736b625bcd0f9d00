use Rattle.std.proofs.Common.{◌≡◌, ◌<◌, ◌+◌, length, ap, arith}
use Rattle.exchange_runs.specs.Table.{slack}
use Rattle.whole_runs.proofs.Ending.{duals_more}
use Rattle.whole_runs.proofs.end.duals_of.Goals as goal

pub loop-r-preserved : goal.loop-r-preserved
loop-r-preserved c =
    let p = c.args.program.now in
    let at : c.columns-columns.result + c.loop-r.r ≡ slack c.args.program.now c.loop-r.r =
    ap (λ n. n + c.loop-r.r) c.columns-columns.ensures.value in
    let within : c.columns-columns.result + c.loop-r.r < length c.args.stands.now =
    omega (arith, at, c.requires.stand_each, c.loop-r-test.true, c.rows-rows.ensures.value) in
    record {
      len = omega (arith, c.in_ok-push.ensures.len, c.loop-r.invariant.len);
      each = rw c.in_ok-push.ensures.items
          (duals_more p c.args.objective.now c.args.stands.now c.loop-r.r (c.columns-columns.result + c.loop-r.r)
          c.loop-r.duals.items c.minus_cell.result _ (omega (arith, c.loop-r.duals.ok.0, c.loop-r.invariant.len)) at within
          c.loop-r.invariant.each c.minus_cell.ensures);
    }
