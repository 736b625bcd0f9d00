use Rattle.std.proofs.Common.{◌≡◌, ◌+◌, ◌-◌, ◌≤◌, ◌++◌, map, drop, length, vec_len, vec_capacity}
use Rattle.schedule_model.specs.Kept.{requested}
use Rattle.schedule_model.specs.Seen.{segment_seen}
use Rattle.schedule_model.proofs.kept_segments.push_resources.Given as goal

abbrev pub invariant-loop-segment : goal.invariant-loop-segment
invariant-loop-segment l = record {
  room : vec_len l.resources + (length l.script - l.segment-index) ≤ vec_capacity l.resources;
  put : l.resources.items ++ map requested (map segment_seen (drop l.segment-index l.script))
      ≡ l.initial.resources.items ++ map requested (map segment_seen l.script);
}
