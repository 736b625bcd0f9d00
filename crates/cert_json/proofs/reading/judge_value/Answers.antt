use Rattle.std.proofs.Common.{◌∙◌, sym}
use Rattle.serde_json.specs.View.{view}
use Rattle.cert_json.specs.declared.version.Version.TheVariants as version
use Rattle.cert_json.specs.Answers.{IsFileOf}
use Rattle.cert_json.proofs.FormLaws.{judged_by_cause}
use Rattle.cert_json.proofs.reading.judge_value.Goals as goal

pub returns-in-Some : goal.returns-in-Some
returns-in-Some c = judged_by_cause IsFileOf c.in-Some.refusal version.Second c.args.word.now (view c.args.value.now)
    (sym c.refusal_of.ensures.cause ∙ c.in-Some.is)
