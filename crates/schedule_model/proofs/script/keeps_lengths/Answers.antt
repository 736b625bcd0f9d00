use Rattle.std.proofs.Common.{length}
use Rattle.schedule_model.proofs.Scripts.{resource_at-each}
use Rattle.schedule_model.proofs.script.keeps_lengths.Goals as goal

pub keeps_length-requires-clause-resource : goal.keeps_length-requires-clause-resource
keeps_length-requires-clause-resource c =
    resource_at-each (length c.args.set.now.resources) c.args.script.now c.loop-segment.segment-index _
    c.loop-segment-test.true c.requires.resources
