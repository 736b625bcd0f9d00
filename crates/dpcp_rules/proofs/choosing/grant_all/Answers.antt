use Rattle.std.proofs.Common.{map, ◌∙◌, ap, length}
use Rattle.schedule_model.specs.Seen.{place_seen}
use Rattle.phase_machine.specs.Now.{current_now, holder_now, requester_now}
use Rattle.shared_choosing.specs.Scene.{place_in, stays}
use Rattle.shared_choosing.specs.Filling.{filled}
use Rattle.shared_choosing.specs.Walks.{walked}
use Rattle.shared_choosing.proofs.Filling.{walk_filled}
use Rattle.dpcp_rules.specs.Choosing.{grant_claim}
use Rattle.dpcp_rules.proofs.choosing.grant_all.Goals as goal

pub returns-clause-granted : goal.returns-clause-granted
returns-clause-granted c =
    let claim = grant_claim c.args.machine.now c.args.tables.now.first.keys c.args.tables.now.bars.keys in
    walk_filled c.args.machine.now claim (λ q. stays (requester_now c.args.machine.now q) (holder_now c.args.machine.now q))
    (place_in (map place_seen c.visit_each.new.places)) c.visit_each.ensures.machine
    (λ q. c.visit_each.ensures.each q
    ∙ ap (walked (λ j. filled j (claim j)) (current_now c.args.machine.now) (length c.args.machine.now.list.set.tasks) q)
    (c.keep_all.ensures.kept q))
