use Rattle.schedule_model.specs.JobLists.{is_listed_segment}
use Rattle.schedule_model.proofs.Scripts.{segment-each}
use Rattle.schedule_model.proofs.kept_segments.push_locals.Goals as goal

pub local_of-requires : goal.local_of-requires
local_of-requires c = segment-each (is_listed_segment) c.args.script.now c.loop-segment.segment-index _ c.loop-segment-test.true c.requires.each
