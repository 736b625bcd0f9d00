use Rattle.std.proofs.Common.{rules}
use Rattle.whole_rows.proofs.Listed.{listed_more, listed_same}
use Rattle.whole_rows.proofs.pivot.list_between.Goals as goal
use Rattle.whole_rows.proofs.pivot.list_between.Goals.{then-num-ne0+in_ok-push, else-num-ne0}

pub loop-place-preserved : goal.loop-place-preserved
loop-place-preserved c = elim c.if-num-ne0.branch [
  | then-num-ne0+in_ok-push w ↦
      let more = w.in_ok-push.ensures.items in
      rw (w.list-is, more)
      (listed_more c.loop-place.place c.args.nums.now c.loop-place.list.items _ c.loop-place.invariant (search rules) (search rules))
  | else-num-ne0 w ↦
      rw (w.list-is) (listed_same c.loop-place.place c.args.nums.now c.loop-place.list.items c.loop-place.invariant (search rules))
]
