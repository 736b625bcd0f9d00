use Rattle.std.proofs.Common.{length}
use Rattle.program_sources.specs.Recurrence.{SourceDef, source_at}
use Rattle.response_fixpoint.proofs.PlaceLaws.{part_below, parts_given}
use Rattle.settling.specs.Rising.{IsFoundAt}
use Rattle.settling.proofs.ahead.reach_ahead.Goals as goal

pub in_places-requires : goal.in_places-requires
in_places-requires g c =
    let f : SourceDef = source_at (g.P.ProgramSource.source c.args.protocol.now) c.args.set.now in
    λ k part here. rw c.tasks.ensures.value (part_below (IsFoundAt c.args.points f c.args.bounds.now) (length c.args.set.now.tasks) part
    (c.in_ok-parts.ensures k part here))

pub returns : goal.returns
returns g c =
    let f : SourceDef = source_at (g.P.ProgramSource.source c.args.protocol.now) c.args.set.now in
    parts_given (IsFoundAt c.args.points f c.args.bounds.now) (length c.args.set.now.tasks) c.in_ok-parts.parts.items
    c.in_places.result (rw c.tasks.ensures.value at c.in_places.ensures) c.in_ok-parts.ensures
