use Rattle.std.proofs.Common.{map, subst, sym, ◌∙◌}
use Rattle.std.specs.Vec.{with_items}
use Rattle.std.proofs.lemmas.List.{with_items_is}
use Rattle.schedule_model.specs.Seen.{place_seen}
use Rattle.shared_choosing.specs.Scene.{place_in, running_in}
use Rattle.shared_choosing.proofs.row_choice.choose_row.Goals as goal

pub returns-clause-granted : goal.returns-clause-granted
returns-clause-granted g c =
    subst (λ h. g.C.RowChoice.granted c.args.choice.now c.args.machine.now (place_in (map place_seen h)))
    (sym (with_items_is c.args.row.now.holders c.grant.new.holders (c.grant.ensures.len ∙ c.deref_mut.ensures.len)))
    c.grant.ensures.granted

pub returns-clause-placed : goal.returns-clause-placed
returns-clause-placed g c =
    subst
    (λ h. g.C.RowChoice.placed c.args.choice.now c.args.machine.now (place_in (map place_seen h))
    (running_in (map place_seen (with_items c.args.row.now.running c.run.new.running).items))) c.deref.ensures.value
    (subst
    (λ r. g.C.RowChoice.placed c.args.choice.now c.args.machine.now (place_in (map place_seen c.deref.result.now))
    (running_in (map place_seen r)))
    (sym (with_items_is c.args.row.now.running c.run.new.running (c.run.ensures.len ∙ c.deref_mut-2.ensures.len)))
    c.run.ensures.placed)
