use Rattle.std.proofs.Common.{◌≡◌, ◌++◌, [], ◌∷◌, map, length, refl, true}
use Rattle.std.proofs.lemmas.List.{map-append}
use Rattle.std.proofs.lemmas.List.Folds.{list_all-append}
use Rattle.schedule_model.specs.LawfulJobs.{is_resource_in}
use Rattle.schedule_model.specs.Seen.{segment_seen}
use Rattle.trace_csv.specs.Scripts.{script_in, with_front, parts_of}
use Rattle.trace_csv.specs.PartsSeen.{part_seen, rest_seen, tokens_left}
use Rattle.trace_csv.specs.JobLines.{segment_written, has_known_resource}
use Rattle.trace_csv.proofs.ScriptWalks.{no_front, one_further, all_further, fails_here}
use Rattle.trace_csv.proofs.segments.segments_of.Goals as goal

pub loop-rest-init : goal.loop-rest-init
loop-rest-init c =
    ([], no_front (script_in c.args.text.now), refl, rw c.in_ok-segments.ensures.items refl, rw c.in_ok-segments.ensures.items refl)

pub returns-in_default-segment_of : goal.returns-in_default-segment_of
returns-in_default-segment_of c =
    let inv = c.loop-rest.invariant in
    let left = parts_of (tokens_left (rest_seen c.in-Some-first_part.after)) in
    let held : with_front inv.0 (script_in c.in-Some.text.now) ≡ script_in c.args.text.now = rw c.in-Some.is at inv.1 in
    fails_here (has_known_resource c.args.set.now) inv.0 (part_seen c.in-Some-first_part.part) left
    (script_in c.in-Some.text.now) (script_in c.args.text.now) held c.in-Some-first_part.ensures.0 c.in_default-segment_of.ensures

pub loop-rest-preserved : goal.loop-rest-preserved
loop-rest-preserved c =
    let set = c.args.set.now in
    let inv = c.loop-rest.invariant in
    let part = part_seen c.in-Some-first_part.part in
    let left = parts_of (tokens_left (rest_seen c.in-Some-first_part.after)) in
    let old = c.loop-rest.segments.items in
    let segment = c.in-Some-segment_of.segment in
    let inside = is_resource_in (length set.resources) in
    let held : with_front inv.0 (script_in c.in-Some.text.now) ≡ script_in c.args.text.now = rw c.in-Some.is at inv.1 in (
      inv.0 ++ part ∷ [],
      one_further inv.0 part left (script_in c.in-Some.text.now) (script_in c.args.text.now) held c.in-Some-first_part.ensures.0,
      all_further (has_known_resource set) inv.0 part true true inv.2 c.in-Some-segment_of.ensures.0,
      rw (
        c.in_ok-push.ensures.items,
        map-append segment_seen old (segment ∷ []),
        map-append (segment_written set) inv.0 (part ∷ []),
        inv.3,
        c.in-Some-segment_of.ensures.1,
      ) refl,
      rw (
        c.in_ok-push.ensures.items,
        map-append segment_seen old (segment ∷ []),
        list_all-append inside (map segment_seen old) (segment_seen segment ∷ []),
        inv.4,
        c.in-Some-segment_of.ensures.2,
      ) refl,
    )
