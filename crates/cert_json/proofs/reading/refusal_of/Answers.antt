use Rattle.serde_json.specs.View.{view}
use Rattle.cert_json.proofs.FormLaws.{form_of}
use Rattle.cert_json.proofs.reading.refusal_of.Goals as goal

pub returns-clause-form : goal.returns-clause-form
returns-clause-form c =
    form_of c.first_refusal.result c.args.version c.args.word.now (view c.args.value.now) c.first_refusal.ensures
