use Rattle.schedule_model.specs.JobLists.{is_listed_segment}
use Rattle.schedule_model.proofs.Scripts.{segment-each}
use Rattle.schedule_model.proofs.kept_segments.push_ticks.Goals as goal

pub ticks_of-requires : goal.ticks_of-requires
ticks_of-requires c = segment-each (is_listed_segment) c.args.script.now c.loop-segment.segment-index _ c.loop-segment-test.true c.requires.each
