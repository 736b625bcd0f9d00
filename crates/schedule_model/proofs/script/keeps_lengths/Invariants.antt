use Rattle.std.proofs.Common.{◌≡◌, map, drop}
use Rattle.std.specs.List.{list_all}
use Rattle.schedule_model.specs.LawfulJobs.{is_length_kept}
use Rattle.schedule_model.specs.Seen.{segment_seen}
use Rattle.schedule_model.proofs.script.keeps_lengths.Given as goal

abbrev pub invariant-loop-segment : goal.invariant-loop-segment
invariant-loop-segment l = list_all (is_length_kept l.set l.x.0) (map segment_seen (drop l.segment-index l.script))
    ≡ list_all (is_length_kept l.set l.x.0) (map segment_seen l.script)
