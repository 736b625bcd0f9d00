use Rattle.std.proofs.Common.{◌≡◌, ◌+◌, ◌-◌, ◌≤◌, ◌++◌, map, drop, length, vec_len, vec_capacity}
use Rattle.schedule_model.specs.JobDef.{request_ticks}
use Rattle.schedule_model.specs.Seen.{segment_seen}
use Rattle.schedule_model.proofs.kept_segments.push_ticks.Given as goal

abbrev pub invariant-loop-segment : goal.invariant-loop-segment
invariant-loop-segment l = record {
  room : vec_len l.ticks + (length l.script - l.segment-index) ≤ vec_capacity l.ticks;
  put : l.ticks.items ++ map request_ticks (map segment_seen (drop l.segment-index l.script))
      ≡ l.initial.ticks.items ++ map request_ticks (map segment_seen l.script);
}
