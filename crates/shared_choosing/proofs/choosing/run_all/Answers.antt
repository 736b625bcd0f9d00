use Rattle.std.proofs.Common.{length, map}
use Rattle.schedule_model.specs.Seen.{place_seen}
use Rattle.shared_choosing.specs.Scene.{place_in, running_in}
use Rattle.shared_choosing.proofs.Walks.{walk_placed}
use Rattle.shared_choosing.proofs.Writing.{nothing_runs}
use Rattle.shared_choosing.proofs.choosing.run_all.Goals as goal

pub returns-clause-placed : goal.returns-clause-placed
returns-clause-placed g c =
    walk_placed c.args.machine.now (g.C.Columns.column c.args.columns.now c.args.machine.now) (g.O.Order.grant c.args.order.now c.args.machine.now)
    (g.O.Order.run c.args.order.now c.args.machine.now) (place_in (map place_seen c.args.holders.now))
    (running_in (map place_seen c.clear.new.places)) (running_in (map place_seen c.visit_each.new.places))
    c.visit_each.ensures.machine
    (nothing_runs c.clear.new.places (length c.args.running.now) c.clear.ensures.len c.clear.ensures.empty)
    c.visit_each.ensures.each
