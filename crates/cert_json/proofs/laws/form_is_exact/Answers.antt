use Rattle.cert_json.proofs.FormLaws.{form_from, none_from_form}
use Rattle.cert_json.proofs.laws.form_is_exact.Goals as goal

pub returns : goal.returns
returns c = λ v word d. (form_from v word d, none_from_form v word d)
