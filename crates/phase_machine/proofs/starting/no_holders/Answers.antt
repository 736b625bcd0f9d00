use Rattle.std.proofs.Common.{◌∙◌, ◌++◌, ◌∷◌, [], map, None, ap}
use Rattle.std.proofs.lemmas.List.{map-append, replicate-append-replicate}
use Rattle.schedule_model.specs.Seen.{place_seen}
use Rattle.phase_machine.proofs.starting.no_holders.Goals as goal

pub loop-preserved : goal.loop-preserved
loop-preserved c =
    ap (map place_seen) c.in_ok-push.ensures.items ∙ map-append place_seen c.loop.holders.items (None ∷ [])
    ∙ ap (λ l. l ++ None ∷ []) c.loop.invariant ∙ replicate-append-replicate c.loop.counter 1 None
