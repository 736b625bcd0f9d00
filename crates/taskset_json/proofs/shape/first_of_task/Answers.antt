use Rattle.std.proofs.Common.{codes, arith}
use Rattle.serde_json.specs.View.{view}
use Rattle.taskset_json.proofs.Sizes.{listed_within}
use Rattle.taskset_json.proofs.shape.first_of_task.Goals as goal

pub first_request-requires : goal.first_request-requires
first_request-requires c = omega
    (arith, listed_within (codes "requests") (view c.args.task.now) c.list_at.result.now c.list_at.ensures, c.requires)
