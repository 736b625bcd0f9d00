use Rattle.std.proofs.Common.{◌≡◌, ap, arith}
use Rattle.sporadic_model.specs.SetDef.{task_at}
use Rattle.blocking_columns.specs.Windows.{requests_at}
use Rattle.closer_distributed.proofs.Away.{away_and_here}
use Rattle.closer_distributed.proofs.counting.requests_away.Goals as goal

pub overflow_sub-result : goal.overflow_sub-result
overflow_sub-result c =
    let set = c.args.set.now in
    let i = c.args.i.0 in
    let here : requests_at set i c.processor.result ≡ requests_at set i (task_at set i).processor =
    ap (requests_at set i) c.processor.ensures.value in
    omega (arith, here, away_and_here set i, c.requests_of.ensures.value, c.requests_at.ensures)

pub returns-clause-value : goal.returns-clause-value
returns-clause-value c =
    let set = c.args.set.now in
    let i = c.args.i.0 in
    let here : requests_at set i c.processor.result ≡ requests_at set i (task_at set i).processor =
    ap (requests_at set i) c.processor.ensures.value in
    omega (arith, here, away_and_here set i, c.requests_of.ensures.value, c.requests_at.ensures)
