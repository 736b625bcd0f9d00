use Rattle.fraction128.proofs.OddParts.{lesser_odd, odd_step, gcd_of_same}
use Rattle.fraction128.proofs.divisor.gcd_odd.Goals as goal

pub loop-x-preserved : goal.loop-x-preserved
loop-x-preserved c =
    let odds = c.loop-x.invariant in
    record {
      x_odd = lesser_odd c.loop-x.x c.loop-x.y c.min-less.result c.min-less.ensures odds.x_odd odds.y_odd;
      y_odd = c.odd_part-y.ensures.odd;
      kept = λ g h. odds.kept g (odd_step c.loop-x.x c.loop-x.y c.min-less.result c.max.result c.odd_part-y.result _ g
          c.min-less.ensures c.max.ensures c.odd_part-y.ensures.whole odds.x_odd odds.y_odd h);
    }

pub returns : goal.returns
returns c = c.loop-x.invariant.kept c.loop-x.x (gcd_of_same c.loop-x.x c.loop-x.y c.loop-x-test.false)
