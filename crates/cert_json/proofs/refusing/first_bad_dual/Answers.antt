use Rattle.std.proofs.Common.{codes, arith}
use Rattle.serde_json.specs.View.{view}
use Rattle.taskset_json.proofs.Sizes.{listed_within}
use Rattle.cert_json.proofs.refusing.first_bad_dual.Goals as goal

pub first_misshapen-requires : goal.first_misshapen-requires
first_misshapen-requires c = omega
    (arith, listed_within (codes "duals") (view c.args.value.now) c.list_at.result.now c.list_at.ensures, c.requires)
