use Rattle.std.proofs.Common.{map}
use Rattle.schedule_model.specs.Seen.{place_seen}
use Rattle.shared_choosing.specs.Scene.{running_in}
use Rattle.shared_choosing.proofs.Filling.{walk_filled}
use Rattle.shared_choosing.proofs.claims.fill_each.Goals as goal

pub returns-clause-filled : goal.returns-clause-filled
returns-clause-filled g c =
    walk_filled c.args.machine.now (g.C.Claim.claim c.args.claim.now c.args.machine.now)
    (running_in (map place_seen c.args.running.now)) (running_in (map place_seen c.visit_each.new.places))
    c.visit_each.ensures.machine c.visit_each.ensures.each
