use Rattle.std.proofs.Common.{◌≡◌, ◌≤◌, ◌+◌, List, length}
use Rattle.std.specs.List.{list_all}
use Rattle.trace_csv.specs.Scripts.{PartDef, script_in, parts_of, with_front}
use Rattle.trace_csv.specs.PartsSeen.{rest_seen, tokens_left, size_left}
use Rattle.trace_csv.specs.JobLines.{has_known_resource}
use Rattle.trace_csv.proofs.segments.outline_of.Given as goal

-- The parts so far, and the parts of what is left, are those of the whole.
abbrev pub invariant-loop-rest : goal.invariant-loop-rest
invariant-loop-rest l = record {
  front : (parts : List PartDef) × (with_front parts (parts_of (tokens_left (rest_seen l.rest))) ≡ script_in l.fn.text)
      × (l.segments ≡ length parts) × (l.is_known ≡ list_all (has_known_resource l.set) parts);
  fewer : l.segments + size_left (rest_seen l.rest) ≤ length l.fn.text + 1;
}

abbrev pub decreases-loop-rest : goal.decreases-loop-rest
decreases-loop-rest l = size_left (rest_seen l.rest)
