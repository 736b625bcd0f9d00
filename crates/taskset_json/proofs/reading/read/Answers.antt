use Rattle.std.proofs.Common.{arith}
use Rattle.serde_json.specs.View.{view}
use Rattle.taskset_json.proofs.Sizes.{read-size}
use Rattle.taskset_json.proofs.reading.read.Goals as goal

pub set_of-requires : goal.set_of-requires
set_of-requires c = omega (arith, read-size c.args.bytes.now (view c.in-Ok.value) c.in-Ok.ensures.ok.1, c.requires)
