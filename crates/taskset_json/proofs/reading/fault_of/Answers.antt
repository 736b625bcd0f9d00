use Rattle.serde_json.specs.View.{view}
use Rattle.taskset_json.proofs.FormRelation.{form_of}
use Rattle.taskset_json.proofs.reading.fault_of.Goals as goal

pub returns-clause-form : goal.returns-clause-form
returns-clause-form c = form_of c.first_misshapen.result (view c.args.value.now) c.first_misshapen.ensures
