use Rattle.std.proofs.Common.{◌≡◌, ◌<◌, ◌∙◌, sym, ap, arith, length, get_or, List}
use Rattle.schedule_model.specs.JobDef.{SegmentDef, no_segment}
use Rattle.schedule_model.specs.Kept.{kept_segment}
use Rattle.schedule_model.specs.KeptViews.{segments_view}
use Rattle.schedule_model.proofs.KeptSegmentLaws.{kept_segments-at}
use Rattle.schedule_model.proofs.KeptViewLaws.{segments_view-length}
use Rattle.schedule_model.proofs.kept_segments.KeptSegments.at.Goals as goal

pub index-requires : goal.index-requires
index-requires c =
    omega (arith, segments_view-length c.self.inside c.self.invariant, ap length c.self.view_is)

pub index-requires-2 : goal.index-requires-2
index-requires-2 c =
    omega (arith, segments_view-length c.self.inside c.self.invariant, ap length c.self.view_is)

pub index-requires-3 : goal.index-requires-3
index-requires-3 c =
    omega (arith, segments_view-length c.self.inside c.self.invariant, ap length c.self.view_is)

pub returns : goal.returns
returns c =
    let inside = c.self.inside in
    let n = c.args.n in
    let within : n < length inside.locals.items =
    omega (arith, segments_view-length inside c.self.invariant, ap length c.self.view_is) in
    let kept : get_or (segments_view inside) n no_segment
    ≡ kept_segment c.index.result.now c.index-2.result.now c.index-3.result.now =
    rw (← c.index.ensures, ← c.index-2.ensures, ← c.index-3.ensures) at (kept_segments-at inside.locals.items inside.ticks.items
    inside.resources.items n c.index.result.now c.index-2.result.now c.index-3.result.now c.self.invariant.ticks
    c.self.invariant.resources within) in
    c.segment_from.ensures ∙ sym kept ∙ ap (λ (s : List SegmentDef). get_or s n no_segment) c.self.view_is
