use Rattle.exchange_runs.proofs.Loops.{least_take, least_keep}
use Rattle.simplex.proofs.choice.better.Goals as goal

pub returns-then-comes_before : goal.returns-then-comes_before
returns-then-comes_before c t place e agrees so_far has is =
    let comes = c.if-comes_before.ensures in
    least_take place t e c.args.i c.args.r c.args.least c.args.ratio so_far has is comes.0 (rw (agrees c.args.i, agrees c.args.r) comes.1)

pub returns-else-comes_before : goal.returns-else-comes_before
returns-else-comes_before c t place e agrees so_far has is =
    let comes = c.if-comes_before.ensures in
    least_keep place t e c.args.i c.args.r c.args.least c.args.ratio so_far is comes.0 (rw (agrees c.args.r, agrees c.args.i) comes.1)
