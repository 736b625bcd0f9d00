use Rattle.serde_json.specs.View.{view}
use Rattle.refusal_json.proofs.SmallPoints.{small_if_judged}
use Rattle.refusal_json.proofs.reading.read_refusal.Goals as goal

pub returns-in-Ok-clause-small : goal.returns-in-Ok-clause-small
returns-in-Ok-clause-small c = small_if_judged c.judge_value.result c.args.word.now (view c.in-Ok.value) c.judge_value.ensures
