use Rattle.std.proofs.Common.{◌≡◌, List, map, length, true}
use Rattle.std.specs.List.{list_all}
use Rattle.schedule_model.specs.LawfulJobs.{is_resource_in}
use Rattle.schedule_model.specs.Seen.{segment_seen}
use Rattle.trace_csv.specs.Scripts.{PartDef, script_in, parts_of, with_front}
use Rattle.trace_csv.specs.PartsSeen.{rest_seen, tokens_left, size_left}
use Rattle.trace_csv.specs.JobLines.{segment_written, has_known_resource}
use Rattle.trace_csv.proofs.segments.segments_of.Given as goal

-- The parts so far, and the parts of what is left, are those of the whole.
abbrev pub invariant-loop-rest : goal.invariant-loop-rest
invariant-loop-rest l =
    (parts : List PartDef) × (with_front parts (parts_of (tokens_left (rest_seen l.rest))) ≡ script_in l.fn.text)
    × (list_all (has_known_resource l.set) parts ≡ true) × (map segment_seen l.segments.items ≡ map (segment_written l.set) parts)
    × (list_all (is_resource_in (length l.set.resources)) (map segment_seen l.segments.items) ≡ true)

abbrev pub decreases-loop-rest : goal.decreases-loop-rest
decreases-loop-rest l = size_left (rest_seen l.rest)
