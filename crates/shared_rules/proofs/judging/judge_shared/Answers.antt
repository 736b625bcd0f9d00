use Rattle.std.proofs.Common.{sym}
use Rattle.schedule_model.specs.Seen.{row_seen}
use Rattle.shared_rules.proofs.Verdict.{judged_none, judged_some}
use Rattle.shared_rules.proofs.judging.judge_shared.Goals as goal

pub returns-in-Some : goal.returns-in-Some
returns-in-Some g c = λ rows shows e.
    judged_some (g.O.Order.ranks c.args.order.now) (g.O.Order.grant c.args.order.now) (g.O.Order.run c.args.order.now)
    c.args.machine.now rows (row_seen c.args.row.now) c.in-Some.rule
    (g.met.O.Order.gives c.args.order.now) shows c.requires.fits e (sym c.in-Some.ensures)

pub returns-in-None : goal.returns-in-None
returns-in-None g c = λ rows shows e.
    judged_none (g.O.Order.ranks c.args.order.now) (g.O.Order.grant c.args.order.now) (g.O.Order.run c.args.order.now)
    c.args.machine.now rows (row_seen c.args.row.now)
    (g.met.O.Order.gives c.args.order.now) shows c.requires.fits e (sym c.in-None.ensures)
