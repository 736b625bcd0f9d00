use Rattle.free_search.proofs.Takings.{taken_more}
use Rattle.free_search.proofs.tableau.take_all.Goals as goal

pub loop-i-preserved : goal.loop-i-preserved
loop-i-preserved c =
    let step = c.in_ok-take_row.ensures in
    taken_more c.loop-i.i c.args.rows.now c.loop-i.rows c.take_row.new.rows c.args.k c.args.r c.args.pivot.now c.loop-i.invariant
    step.only.as_many step.only.others step.own step.left
