use Rattle.schedule_model.specs.Seen.{row_seen}
use Rattle.shared_choosing.proofs.Writing.{choice_made}
use Rattle.shared_choosing.proofs.choosing.choose_shared.Goals as goal

pub returns-clause-chosen : goal.returns-clause-chosen
returns-clause-chosen g c = λ rows shows e.
    choice_made (g.O.Order.ranks c.args.order.now) (g.O.Order.grant c.args.order.now) (g.O.Order.run c.args.order.now)
    c.args.machine.now rows (row_seen c.choose_ordered.new.row) (g.met.O.Order.gives c.args.order.now) shows e
    c.choose_ordered.ensures.sized c.choose_ordered.ensures.granted c.choose_ordered.ensures.placed
