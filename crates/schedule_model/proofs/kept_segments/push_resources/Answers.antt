use Rattle.sporadic_model.specs.declared.limits.TheConstants.{MOST_RESOURCES}
use Rattle.schedule_model.specs.LawfulJobs.{is_resource_in}
use Rattle.schedule_model.proofs.Scripts.{segment-each}
use Rattle.schedule_model.proofs.kept_segments.push_resources.Goals as goal

pub resource_of-requires : goal.resource_of-requires
resource_of-requires c = segment-each (is_resource_in MOST_RESOURCES) c.args.script.now c.loop-segment.segment-index _ c.loop-segment-test.true c.requires.each
