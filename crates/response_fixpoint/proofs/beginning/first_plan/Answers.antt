use Rattle.std.proofs.Common.{length}
use Rattle.program_sources.specs.Recurrence.{SourceDef, source_at}
use Rattle.response_fixpoint.specs.Solutions.{IsPlanned}
use Rattle.response_fixpoint.proofs.PlaceLaws.{part_below, parts_found}
use Rattle.response_fixpoint.proofs.beginning.first_plan.Goals as goal

pub in_places-requires : goal.in_places-requires
in_places-requires g c =
    let f : SourceDef = source_at (g.P.ProgramSource.source c.args.protocol.now) c.args.set.now in
    λ k part here. rw c.tasks.ensures.value (part_below (IsPlanned f c.args.bounds.now c.args.left) (length c.args.set.now.tasks) part
    (c.in_ok-parts.ensures k part here))

pub in_order-requires-clause-places : goal.in_order-requires-clause-places
in_order-requires-clause-places g c =
    let f : SourceDef = source_at (g.P.ProgramSource.source c.args.protocol.now) c.args.set.now in
    parts_found (IsPlanned f c.args.bounds.now c.args.left) (length c.args.set.now.tasks) c.in_ok-parts.parts.items
    c.in_ok-places.places.items (rw c.tasks.ensures.value at c.in_ok-places.ensures) c.in_ok-parts.ensures
