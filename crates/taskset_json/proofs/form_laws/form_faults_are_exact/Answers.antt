use Rattle.taskset_json.proofs.FormRelation.{form_from, none_from_form}
use Rattle.taskset_json.proofs.form_laws.form_faults_are_exact.Goals as goal

pub returns : goal.returns
returns c = λ d. (form_from d, none_from_form d)
