use Rattle.std.proofs.Common.{◌≡◌, ℕ, ◌∙◌, ◌++◌, ap, map, List}
use Rattle.schedule_model.specs.JobDef.{SegmentDef, request_ticks}
use Rattle.schedule_model.specs.Kept.{requested}
use Rattle.schedule_model.specs.Seen.{segment_seen}
use Rattle.schedule_model.proofs.KeptSegmentLaws.{kept_segments-append}
use Rattle.schedule_model.proofs.kept_segments.KeptSegments.append.Goals as goal

pub returns : goal.returns
returns c =
    let inside = c.self.inside in
    let more : List SegmentDef = map segment_seen c.args.script.now in
    let locals : c.push_locals.new.locals.items ≡ inside.locals.items ++ map (λ (s : SegmentDef). s.local) more =
    c.push_locals.ensures
    ∙ ap (λ (ns : List ℕ). ns ++ map (λ (s : SegmentDef). s.local) more) c.in_ok-reserve.ensures.items in
    let ticks : c.push_ticks.new.ticks.items ≡ inside.ticks.items ++ map request_ticks more =
    c.push_ticks.ensures ∙ ap (λ (ns : List ℕ). ns ++ map request_ticks more) c.in_ok-reserve-2.ensures.items in
    let resources : c.push_resources.new.resources.items ≡ inside.resources.items ++ map requested more =
    c.push_resources.ensures ∙ ap (λ (ns : List ℕ). ns ++ map requested more) c.in_ok-reserve-3.ensures.items in
    rw (locals, ticks, resources) (
    kept_segments-append inside.locals.items inside.ticks.items inside.resources.items more c.self.invariant.ticks
    c.self.invariant.resources c.requires.listed
    ∙ ap (λ (s : List SegmentDef). s ++ more) c.self.view_is
    )
