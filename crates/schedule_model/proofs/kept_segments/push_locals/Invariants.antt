use Rattle.std.proofs.Common.{◌≡◌, ◌+◌, ◌-◌, ◌≤◌, ◌++◌, map, drop, length, vec_len, vec_capacity}
use Rattle.schedule_model.specs.JobDef.{SegmentDef}
use Rattle.schedule_model.specs.Seen.{segment_seen}
use Rattle.schedule_model.proofs.kept_segments.push_locals.Given as goal

abbrev pub invariant-loop-segment : goal.invariant-loop-segment
invariant-loop-segment l = record {
  room : vec_len l.locals + (length l.script - l.segment-index) ≤ vec_capacity l.locals;
  put : l.locals.items ++ map (λ (s : SegmentDef). s.local) (map segment_seen (drop l.segment-index l.script))
      ≡ l.initial.locals.items ++ map (λ (s : SegmentDef). s.local) (map segment_seen l.script);
}
