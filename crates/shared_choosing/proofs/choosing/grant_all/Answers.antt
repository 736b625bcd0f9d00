use Rattle.std.proofs.Common.{map, ◌∙◌}
use Rattle.std.proofs.lemmas.List.{length-map}
use Rattle.schedule_model.specs.Seen.{place_seen}
use Rattle.shared_choosing.specs.Scene.{place_in}
use Rattle.shared_choosing.proofs.Walks.{walk_granted}
use Rattle.shared_choosing.proofs.choosing.grant_all.Goals as goal

pub visit_each-requires : goal.visit_each-requires
visit_each-requires g c = record {
  needs = record {
    len = length-map c.keep_all.new.holders place_seen ∙ c.keep_all.ensures.len ∙ c.requires;
    named = c.keep_all.ensures.named;
  };
}

pub returns-clause-granted : goal.returns-clause-granted
returns-clause-granted g c =
    walk_granted c.args.machine.now (g.O.Order.grant c.args.order.now c.args.machine.now)
    (g.O.Order.run c.args.order.now c.args.machine.now) (place_in (map place_seen c.keep_all.new.holders))
    (place_in (map place_seen c.visit_each.new.places)) c.visit_each.ensures.machine
    c.keep_all.ensures.kept c.visit_each.ensures.each
