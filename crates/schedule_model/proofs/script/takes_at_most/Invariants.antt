use Rattle.std.proofs.Common.{◌≡◌, ◌+◌, map, drop}
use Rattle.schedule_model.specs.JobDef.{total_ticks}
use Rattle.schedule_model.specs.Seen.{segment_seen}
use Rattle.schedule_model.proofs.script.takes_at_most.Given as goal

-- What the segments from here on take, plus the most, is what all take, plus what is left.
abbrev pub invariant-loop-segment : goal.invariant-loop-segment
invariant-loop-segment l = total_ticks (map segment_seen (drop l.segment-index l.script)) + l.most
    ≡ total_ticks (map segment_seen l.script) + l.left
