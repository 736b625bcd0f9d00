use Rattle.std.proofs.Common.{◌≡◌, ◌∷◌, ◌++◌, ◌∙◌, map, ap, sym}
use Rattle.std.specs.Map.Iter.{deref_pair}
use Rattle.std.proofs.lemmas.Map.Iter.{rest_more}
use Rattle.charge.specs.Table.{item_seen}
use Rattle.charge.specs.Tally.{item_of}
use Rattle.charge.proofs.Pushing.{pushed}
use Rattle.charge.proofs.table.items_of.Goals as goal

pub loop-place-preserved : goal.loop-place-preserved
loop-place-preserved c =
    let left : c.loop-place.place-iterator ≡ (c.in-Some.place.now, c.in-Some.count.now) ∷ c.next.new.self =
    rest_more deref_pair _ _ _ (c.in-Some.place, c.in-Some.count) c.in-Some.is c.next.ensures.steps in
    rw c.in_ok-push.ensures.items
    (pushed item_seen item_of c.loop-place.items.items c.item_of.result (c.in-Some.place.now, c.in-Some.count.now)
    c.next.new.self c.item_of.ensures
    ∙ ap (λ es. map item_seen c.loop-place.items.items ++ map item_of es) (sym left) ∙ c.loop-place.invariant)
