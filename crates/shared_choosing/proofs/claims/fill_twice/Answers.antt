use Rattle.std.proofs.Common.{length, map}
use Rattle.schedule_model.specs.Seen.{place_seen}
use Rattle.shared_choosing.specs.Scene.{running_in}
use Rattle.shared_choosing.proofs.Writing.{nothing_runs}
use Rattle.shared_choosing.proofs.Filling.{filled_start}
use Rattle.shared_choosing.proofs.claims.fill_twice.Goals as goal

pub returns-clause-filled : goal.returns-clause-filled
returns-clause-filled g c = record {
  before = running_in (map place_seen c.fill_each.new.running);
  holders = filled_start c.args.machine.now (g.A.Claim.claim c.args.first.now c.args.machine.now)
      (running_in (map place_seen c.clear.new.places)) (running_in (map place_seen c.fill_each.new.running))
      (nothing_runs c.clear.new.places (length c.args.running.now) c.clear.ensures.len c.clear.ensures.empty)
      c.fill_each.ensures.filled;
  locals = c.fill_each-2.ensures.filled;
}
