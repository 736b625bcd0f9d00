use Rattle.std.proofs.Common.{arith}
use Rattle.serde_json.specs.View.{view}
use Rattle.taskset_json.proofs.Sizes.{read-size}
use Rattle.cert_json.proofs.SmallDuals.{small_if_judged}
use Rattle.cert_json.proofs.reading.read.Goals as goal

pub judge_value-requires : goal.judge_value-requires
judge_value-requires c = omega (arith, read-size c.args.bytes.now (view c.in-Ok.value) c.in-Ok.ensures.ok.1, c.requires)

pub returns-in-Ok-clause-small : goal.returns-in-Ok-clause-small
returns-in-Ok-clause-small c = small_if_judged c.judge_value.result c.args.word.now (view c.in-Ok.value) c.judge_value.ensures
