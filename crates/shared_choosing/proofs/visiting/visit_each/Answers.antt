use Rattle.std.proofs.Common.{map}
use Rattle.schedule_model.specs.Seen.{place_seen}
use Rattle.phase_machine.specs.Now.{current_now}
use Rattle.shared_choosing.proofs.Walks.{walked_next}
use Rattle.shared_choosing.proofs.visiting.visit_each.Goals as goal

pub loop-x-preserved : goal.loop-x-preserved
loop-x-preserved g c = record {
  needs = c.visit_current.ensures.needs;
  each = λ k.
      walked_next (g.V.Visitor.step c.args.visitor.now c.args.machine.now) (current_now c.args.machine.now) c.loop-x.x k
      (g.V.Visitor.view (map place_seen c.args.places.now) k) (g.V.Visitor.view (map place_seen c.loop-x.places) k)
      (g.V.Visitor.view (map place_seen c.visit_current.new.places) k) (c.loop-x.invariant.each k) (c.visit_current.ensures.each k);
}
