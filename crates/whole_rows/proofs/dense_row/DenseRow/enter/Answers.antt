use Rattle.whole_rows.specs.Numbers.{swapped}
use Rattle.whole_rows.proofs.Entering.{divided_row, same_row}
use Rattle.whole_rows.proofs.dense_row.DenseRow.enter.Goals as goal

pub returns-then-self-ne1 : goal.returns-then-self-ne1
returns-then-self-ne1 c =
    divided_row c.args.self.now c.args.k c.reduce.new.self c.requires.place (rw c.swap_in.ensures.swapped at c.reduce.ensures.reduced.same)
    c.reduce.ensures.small

pub returns-else-self-ne1 : goal.returns-else-self-ne1
returns-else-self-ne1 c =
    divided_row c.args.self.now c.args.k c.swap_in.new.self c.requires.place
    (rw c.swap_in.ensures.swapped (same_row (swapped c.args.self.now c.args.k))) c.swap_in.ensures.small
